use Rattle.std.proofs.lemmas.Result.{on_ok_weaker}
use Rattle.listing.proofs.Reading.{appends_whole}
use Rattle.listing.proofs.print_input.Goals as goal

pub returns : goal.returns
returns g c =
    on_ok_weaker c.write_all.result
    (appends_whole c.read_full.new.memory c.in_ok-size.size c.in_ok-ended.ended c.in_ok-size.ensures.inside _ _ _ _
    c.in_ok-size.ensures.bytes c.in_ok-size.ensures.end c.in_ok-ended.ensures c.print-length.ensures)
    c.write_all.ensures.bytes
