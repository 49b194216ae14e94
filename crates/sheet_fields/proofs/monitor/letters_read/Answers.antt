-- `sheet_fields::monitor::letters_read`: an arm for role 2, one for the rest; at most six lines make at most 64 letters. Assumes nothing.
use Rattle.std.proofs.Common.{arith, ◌+◌}
use lib.Pow.{pow_mono}
use Rattle.records.specs.Laws.Tests.{cases}
use Rattle.records.specs.Meaning.Limits.{max_lines}
use Rattle.sheet_fields.specs.Meaning.Lines.{letters_read}
use Rattle.sheet_fields.proofs.monitor.letters_read.Goals as goal

pub returns-in-2 : goal.returns-in-2
unfolding letters_read
returns-in-2 c = (search (cases, c.in-2.is), omega arith)

pub returns-in-0 : goal.returns-in-0
unfolding letters_read
returns-in-0 c =
    let at = c.args in
    (search (cases, c.pow2.ensures), omega (arith, c.pow2.ensures, pow_mono {i = at.site + at.outputs} {j = max_lines} (omega arith)))
