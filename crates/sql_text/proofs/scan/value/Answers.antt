use Rattle.std.proofs.Common.{◌≡◌, ◌<◌, take, get_or, length, arith}
use Rattle.std.proofs.lemmas.List.{get_or_read}
use Rattle.std.specs.Char.{digit_value}
use Rattle.std.specs.Str.Parse.{digits_value}
use Rattle.sql_text.proofs.Digits.{value_more, digit_at, capped}
use Rattle.sql_text.proofs.scan.value.Goals as goal

pub loop-c-preserved : goal.loop-c-preserved
loop-c-preserved c =
    let within : c.loop-c.c-index < length c.args.digits.now = omega arith in
    let read : c.c-item.result ≡ get_or c.args.digits.now c.loop-c.c-index 0 = get_or_read c.args.digits.now c.loop-c.c-index c.c-item.result within c.c-item.is 0 in
    let small : digit_value c.c-item.result < 10 = rw read (digit_at c.args.digits.now c.loop-c.c-index c.requires within) in
    let digit : c.from-digit.result ≡ digit_value c.c-item.result = grind (arith, small, c.to_digit.ensures.value) in
    let more = value_more c.args.digits.now c.loop-c.c-index within in
    let cut = capped (digits_value 10 (take c.loop-c.c-index c.args.digits.now)) (digit_value c.c-item.result) small in
    cc
