-- The leading output as the code keeps it, with its score and rank beside it.
-- Assumes nothing.
use Rattle.std.specs.Prelude.{Bool, cond, not, ◌&&◌, ◌||◌, Option, Some, None, List, ℕ, ltb, eqb, get_or}
use Rattle.std.proofs.Math.Option as Math
use Rattle.std.proofs.Math.Option.{none, some}
use Rattle.records.specs.Meaning.Lists.{tab}
use Rattle.values.specs.Model.Rank.{rank}
use Rattle.values.specs.declared.choice.Leader.{Leader}

-- the literals of a sheet, which are the first so many of the array
unfoldable pub literals_of : List ℕ → ℕ → List ℕ
literals_of literals count = tab count (λ j. get_or literals j 0)

-- a candidate's score and rank against the leader's
unfoldable pub goes_before : ℕ → ℕ → ℕ → ℕ → Bool
goes_before score rank best highest = ltb best score || (eqb best score && ltb highest rank)

-- no output leads yet
abbrev pub no_leader : Option Leader
no_leader = None

-- the leader once the candidate has been compared with it
unfoldable pub challenged : Option Leader → ℕ → ℕ → ℕ → Leader
challenged None output score rank = record { output = output; score = score; rank = rank }
challenged (Some leader) output score rank =
    cond (not (goes_before score rank leader.score leader.rank)) leader
    (record { output = output; score = score; rank = rank })

-- the leader that stands for what `game` calls so
unfoldable pub leader_of : (ℕ → ℕ) → (ℕ → ℕ) → Math.Option ℕ → Option Leader
leader_of score rank none = no_leader
leader_of score rank (some o) = Some (record { output = o; score = score o; rank = rank o })
