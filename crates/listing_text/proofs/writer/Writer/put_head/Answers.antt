-- `listing_text::writer::Writer::put_head`: four numbers with their words, and the end of the line. Assumes nothing.
use Rattle.std.proofs.Common.{List, arith, ℕ, ◌++◌}
use Rattle.listing_text.specs.Meaning.Listing.{states_word, inputs_word, outputs_word, horizon_word, line_end, labelled, head_line}
use Rattle.listing_text.specs.Laws.Written.{puts_then, fits_first, fits_second}
use Rattle.listing_text.proofs.writer.Writer.put_head.Goals as goal

-- what is to follow the outputs, the inputs and the states
abbrev rest3 : ℕ → List ℕ
rest3 horizon = labelled horizon_word horizon ++ line_end

abbrev rest2 : ℕ → ℕ → List ℕ
rest2 outputs horizon = labelled outputs_word outputs ++ rest3 horizon

abbrev rest1 : ℕ → ℕ → ℕ → List ℕ
rest1 inputs outputs horizon = labelled inputs_word inputs ++ rest2 outputs horizon

pub put_labelled-requires : goal.put_labelled-requires
unfolding head_line
put_labelled-requires c =
    let a = c.args in
    (c.requires.0, fits_first a.self.now (labelled states_word a.count) (rest1 a.inputs a.outputs a.horizon) c.requires.1)

pub put_labelled-requires-2 : goal.put_labelled-requires-2
unfolding head_line
put_labelled-requires-2 c =
    let a = c.args in
    let room1 = fits_second c.put_labelled.ensures (rest1 a.inputs a.outputs a.horizon) c.requires.1 in
    (omega arith, fits_first c.put_labelled.new.self (labelled inputs_word a.inputs) (rest2 a.outputs a.horizon) room1)

pub put_labelled-requires-3 : goal.put_labelled-requires-3
unfolding head_line
put_labelled-requires-3 c =
    let a = c.args in
    let room1 = fits_second c.put_labelled.ensures (rest1 a.inputs a.outputs a.horizon) c.requires.1 in
    let room2 = fits_second c.put_labelled-2.ensures (rest2 a.outputs a.horizon) room1 in
    (omega arith, fits_first c.put_labelled-2.new.self (labelled outputs_word a.outputs) (rest3 a.horizon) room2)

pub put_labelled-requires-4 : goal.put_labelled-requires-4
unfolding head_line
put_labelled-requires-4 c =
    let a = c.args in
    let room1 = fits_second c.put_labelled.ensures (rest1 a.inputs a.outputs a.horizon) c.requires.1 in
    let room2 = fits_second c.put_labelled-2.ensures (rest2 a.outputs a.horizon) room1 in
    let room3 = fits_second c.put_labelled-3.ensures (rest3 a.horizon) room2 in
    (omega arith, fits_first c.put_labelled-3.new.self (labelled horizon_word a.horizon) line_end room3)

pub put_byte-requires : goal.put_byte-requires
unfolding head_line
put_byte-requires c =
    let a = c.args in
    let room1 = fits_second c.put_labelled.ensures (rest1 a.inputs a.outputs a.horizon) c.requires.1 in
    let room2 = fits_second c.put_labelled-2.ensures (rest2 a.outputs a.horizon) room1 in
    let room3 = fits_second c.put_labelled-3.ensures (rest3 a.horizon) room2 in
    fits_second c.put_labelled-4.ensures line_end room3

pub returns : goal.returns
unfolding head_line
returns c =
    puts_then c.put_labelled.ensures
    (puts_then c.put_labelled-2.ensures
    (puts_then c.put_labelled-3.ensures (puts_then c.put_labelled-4.ensures c.put_byte.ensures)))
