-- What is said of a table of steps and its rounds, of the struct that holds them.
-- Assumes nothing.
use Rattle.std.specs.Prelude.{List, ℕ}
use Rattle.rounds.specs.declared.Sifted.{Sifted}

-- a word that takes the cells, the dropping rounds and the numbers of inputs and outputs, said of a struct that has them
abbrev pub over {ℓ} : {A : Type ℓ} → Sifted → (List ℕ → List ℕ → ℕ → ℕ → A) → A
over s says = says s.table.cells.now s.dropped.now s.table.ins s.table.outs
