use Rattle.std.proofs.Common.{◌≡◌, sym, ap, ◌∙◌, subst, List, ℕ, Vec, Global, encode_utf8_all}
use Rattle.std.specs.Str.{IsUtf8}
use Rattle.std.specs.String.{string_bytes}
use Rattle.std.proofs.lemmas.List.Elements.{recursion_from_All}
use Rattle.std.proofs.lemmas.Str.{IsUtf8-string_bytes}
use Rattle.sql_printer.specs.Printing.{printed_tokens}
use Rattle.sql_text.specs.Tokens.{IsToken, HasTokens}
use Rattle.sql_printer.specs.Writer.{state}
use Rattle.sql_printer.proofs.Writes.{printed_characters}
use Rattle.sql_printer.proofs.Written.{text_has_tokens}
use Rattle.sql_printer.proofs.printer.print_statement.Goals as goal

pub returns-clause-utf8 : goal.returns-clause-utf8
returns-clause-utf8 c =
    let bytes : c.from_vec.result ≡ string_bytes c.in_ok-text.text = c.from_vec.ensures ∙ ap (λ (v : Vec ℕ Global). v.items) c.into_bytes.ensures.value in
    subst IsUtf8 (sym bytes) (IsUtf8-string_bytes c.in_ok-text.text)

pub returns-clause-text : goal.returns-clause-text
returns-clause-text c =
    let bytes : c.from_vec.result ≡ string_bytes c.in_ok-text.text = c.from_vec.ensures ∙ ap (λ (v : Vec ℕ Global). v.items) c.into_bytes.ensures.value in
    printed_characters (state c.new-writer.result) (state c.print.new.writer) (printed_tokens c.args.statement.now) c.from_vec.result c.new-writer.ensures c.in_ok-print.ensures
    (returns-clause-utf8 c) (bytes ∙ c.in_ok-text.ensures ∙ ap encode_utf8_all c.as_slice.ensures)

pub returns-clause-tokens : goal.returns-clause-tokens
returns-clause-tokens c is =
    let H : List ℕ → Type 0 = λ cs. HasTokens cs (printed_tokens c.args.statement.now) in
    subst H (sym (returns-clause-text c)) (text_has_tokens (printed_tokens c.args.statement.now) (recursion_from_All IsToken (printed_tokens c.args.statement.now) is))
