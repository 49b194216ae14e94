-- `listing_text::writer::Writer::put_number`: one, two or three digits. Assumes nothing.
use Rattle.std.proofs.Common.{arith}
use Rattle.listing_text.specs.Laws.Digits.{digits_one, digits_two, digits_three, one_digit, two_digits, three_digits}
use Rattle.listing_text.specs.Laws.Pieces.{put_same}
use Rattle.listing_text.specs.Laws.Written.{puts_then, puts_as}
use Rattle.listing_text.proofs.writer.Writer.put_number.Goals as goal

pub put_byte-requires : goal.put_byte-requires
put_byte-requires c = omega (arith, c.requires.1, one_digit _ c.if-n-lt10.true)

pub returns-then-n-lt10 : goal.returns-then-n-lt10
returns-then-n-lt10 c = puts_as c.put_byte.ensures (digits_one _ c.if-n-lt10.true c.digit.ensures)

pub put_byte-requires-then-n-lt100 : goal.put_byte-requires-then-n-lt100
put_byte-requires-then-n-lt100 c = let n = c.args.n in omega (arith, c.requires.1, two_digits n (omega arith) (omega arith))

pub put_byte-requires-then-n-lt100-2 : goal.put_byte-requires-then-n-lt100-2
put_byte-requires-then-n-lt100-2 c =
    let n = c.args.n in
    let p = c.put_byte-then-n-lt100.ensures.put in
    omega (arith, c.requires.1, two_digits n (omega arith) (omega arith), p.place_is, put_same p)

pub returns-then-n-lt100 : goal.returns-then-n-lt100
returns-then-n-lt100 c =
    let n = c.args.n in
    puts_as (puts_then c.put_byte-then-n-lt100.ensures c.put_byte-then-n-lt100-2.ensures)
    (digits_two n (omega arith) (omega arith) c.digit-then-n-lt100.ensures c.digit-then-n-lt100-2.ensures)

pub put_byte-requires-2 : goal.put_byte-requires-2
put_byte-requires-2 c = let n = c.args.n in omega (arith, c.requires.1, three_digits n (omega arith) (omega arith))

pub put_byte-requires-3 : goal.put_byte-requires-3
put_byte-requires-3 c =
    let n = c.args.n in
    let p = c.put_byte-2.ensures.put in
    omega (arith, c.requires.1, three_digits n (omega arith) (omega arith), p.place_is, put_same p)

pub put_byte-requires-4 : goal.put_byte-requires-4
put_byte-requires-4 c =
    let n = c.args.n in
    let p = (puts_then c.put_byte-2.ensures c.put_byte-3.ensures).put in
    omega (arith, c.requires.1, three_digits n (omega arith) (omega arith), p.place_is, put_same p)

pub returns : goal.returns
returns c =
    let n = c.args.n in
    puts_as (puts_then (puts_then c.put_byte-2.ensures c.put_byte-3.ensures) c.put_byte-4.ensures)
    (digits_three n (omega arith) c.requires.0 c.digit-2.ensures c.digit-3.ensures c.digit-4.ensures)
