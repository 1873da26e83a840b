-- Lemmas on what is written.
use Rattle.std.proofs.Common.{◌≡◌, ℕ, suc, ◌+◌, add-one, Result, OnOk, List, ◌∷◌, ◌++◌, sym, ap, ◌∙◌, encode_utf8_all, append_assoc, append-nil, []}
use Rattle.std.proofs.lemmas.List.Sums.{fold-append}
use Rattle.std.proofs.lemmas.Result.{on_ok_weaker}
use Rattle.std.proofs.lemmas.Str.{chars_from_encodes}
use Rattle.cal_value.specs.declared.operator.Op.{Op}
use Rattle.std.specs.Str.{chars, IsUtf8}
use Rattle.sql_text.specs.declared.token.Token.{Token}
use Rattle.sql_printer.specs.declared.writer.Edge.TheVariants.{Tight}
use Rattle.sql_tree.specs.declared.tree.Tree.{Tree}
use Rattle.sql_tree.specs.declared.tree.Tree.TheFolds.{fold-roll-Tree}
use Rattle.sql_tree.specs.declared.tree.Tree.TheOpen.{Tree-F}
use Rattle.sql_tree.specs.declared.tree.Tree.TheVariants.{Binary, rolls-Binary}
use Rattle.sql_printer.specs.Printing.{Printed, node, printed_tree, tree_tokens, at_least, op_level, left_level, op_token, binary_tokens}
use Rattle.sql_printer.specs.Writing.{Written, write, write_all, gap, touches, spelling, edge, text_behind, text_of}

pub write_append : (w : Written) (xs ys : List Token) → write_all w (xs ++ ys) ≡ write_all (write_all w xs) ys
write_append w xs ys = fold-append write w xs ys

pub printed_binary : (place : ℕ) (o : Op) (left right : Tree) → printed_tree (Binary place o left right) ≡ (op_level o, binary_tokens o (printed_tree left) (printed_tree right))
printed_binary place o left right = ap printed_tree (sym (rolls-Binary place o left right)) ∙ fold-roll-Tree Printed node (Tree-F.Binary place o left right)

-- a binary node is written part after part
pub binary_written : {T E : Type 0} (r : Result T E) (w1 w2 w3 w4 : Written) (tree left right : Tree) (place : ℕ) (o : Op) (l m : ℕ) → tree ≡ Binary place o left right → l ≡ left_level o → m ≡ op_level o
    → w2 ≡ write_all w1 (at_least l (printed_tree left)) → w3 ≡ write w2 (op_token o) → OnOk r (w4 ≡ write_all w3 (at_least (m + 1) (printed_tree right))) → OnOk r (w4 ≡ write_all w1 (tree_tokens tree))
binary_written r w1 w2 w3 w4 tree left right place o l m is l_is m_is first second third =
    let more : op_level o + 1 ≡ suc (op_level o) = add-one (op_level o) in
    let tokens : tree_tokens tree ≡ binary_tokens o (printed_tree left) (printed_tree right) = ap tree_tokens is ∙ ap (λ (p : Printed). p.1) (printed_binary place o left right) in
    let start : w3 ≡ write (write_all w1 (at_least (left_level o) (printed_tree left))) (op_token o) = second ∙ ap (λ w. write w (op_token o)) (first ∙ ap (λ x. write_all w1 (at_least x (printed_tree left))) l_is) in
    let whole = write_append w1 (at_least (left_level o) (printed_tree left)) (op_token o ∷ at_least (suc (op_level o)) (printed_tree right)) in
    on_ok_weaker r (λ e. e ∙ ap (λ w. write_all w (at_least (m + 1) (printed_tree right))) start
    ∙ ap (λ x. write_all (write (write_all w1 (at_least (left_level o) (printed_tree left))) (op_token o)) (at_least x (printed_tree right))) (ap (λ x. x + 1) m_is ∙ more)
    ∙ sym whole ∙ ap (write_all w1) (sym tokens)) third

-- what is written one after another is the text of the tokens
pub written_text : (w : Written) (ts : List Token) → (write_all w ts).0 ≡ w.0 ++ text_behind w.1 ts
written_text w [] = sym (append-nil w.0)
written_text w (t ∷ ts) =
    written_text (write w t) ts
    ∙ append_assoc w.0 (gap (touches w.1 t) ++ spelling t) (text_behind (edge t) ts)
    ∙ ap (λ xs. w.0 ++ xs) (append_assoc (gap (touches w.1 t)) (spelling t) (text_behind (edge t) ts))

-- the characters of a text that was written from the start, and encoded
pub printed_characters : (w v : Written) (ts : List Token) (bytes : List ℕ) → w ≡ ([], Tight) → v ≡ write_all w ts → IsUtf8 bytes → bytes ≡ encode_utf8_all v.0 → chars bytes ≡ text_of ts
printed_characters w v ts bytes start written utf8 encoded =
    sym (chars_from_encodes v.0 bytes utf8 (sym encoded)) ∙ ap (λ (x : Written). x.0) (written ∙ ap (λ x. write_all x ts) start) ∙ written_text ([], Tight) ts
