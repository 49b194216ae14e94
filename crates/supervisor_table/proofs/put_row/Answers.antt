-- `supervisor_table::put_row`: the header, the kept byte and the masks, one after the other. Assumes nothing.
use Rattle.std.proofs.Common.{Bool, true, false, cond, refl, ◌+◌, ◌≡◌, ◌∙◌}
use mir.Val.{bool_byte}
use Rattle.records.specs.Meaning.Lists.{tab}
use Rattle.rounds.specs.Model.Tables.{over}
use Rattle.rounds.specs.Model.TableRounds.{mask_of}
use Rattle.supervisor_table.specs.Model.MaskRows.{kept_flag, table_row}
use Rattle.supervisor_table.proofs.Stores.{whole_record}
use Rattle.supervisor_table.proofs.put_row.Goals as goal

-- a flag is 1 where it is set, else 0
flag : (b : Bool) → bool_byte b ≡ cond b 1 0
flag true = refl
flag false = refl

pub returns : goal.returns
unfolding table_row kept_flag
returns c =
    let a = c.args in
    let s = a.sifted.now in
    whole_record a.res.now a.at (1 + s.table.ins) 18 (kept_flag s.dropped.now a.k)
    (tab s.table.ins (over s mask_of a.k))
    c.put_header.ensures (c.from.ensures ∙ rw c.is_kept.ensures (flag _)) c.put_masks.ensures
