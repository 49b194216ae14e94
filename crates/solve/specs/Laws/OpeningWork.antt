-- Work memory that is long enough has room for solving.
-- Assumes nothing.
use Rattle.std.specs.Prelude.{◌≡◌, true, List, ◌∷◌, ℕ, ◌≤◌}
use Rattle.records.specs.Meaning.Limits.{max_states}
use Rattle.records.specs.Meaning.Work.{Slice, long_enough}
use Rattle.records.specs.Laws.Work.{Long, long_enough_lem}
use Rattle.product.specs.Model.ProductNumbering.{tuples_length, cells_length}
use Rattle.states.specs.Model.Index.{links_length}
use Rattle.solve.specs.Promises.OpeningWork.{opening_work}

pub opening_room : (more : List Slice) {tuples cells dropped : ℕ} (lent : List ℕ)
    → long_enough (opening_work max_states more) (tuples ∷ cells ∷ dropped ∷ lent) ≡ true
    → (tuples_length ≤ tuples) × ((cells_length ≤ cells) × (links_length ≤ dropped))
unfolding Long
opening_room more {tuples} {cells} {dropped} lent e =
    let long = long_enough_lem (opening_work max_states more) (tuples ∷ cells ∷ dropped ∷ lent) e in (long.0, (long.1.0, long.1.1.0))
