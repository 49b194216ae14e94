-- What is said of a product tuple (document 02, N2): how a break is forced from it, or that one way of answering holds out for ever.
-- Assumes nothing.
use Rattle.std.specs.Prelude.{List, ℕ}
use Rattle.sheet.specs.Meaning.Decoded.{Decoded}
use Rattle.product.specs.Meaning.Step.{inputs_of, outputs_of, advance, unbroken, first_tuple}
use Rattle.game.specs.Meaning.Words.{Word}
use Rattle.game.specs.Meaning.Strategy.{Along}
use Rattle.game.specs.Meaning.Survival.{Unbroken}
use Rattle.game.specs.Meaning.Forcing as forcing
use Rattle.solve.specs.Meaning.Allowed.{Kept}

-- n is the least number of steps in which the inputs force a hard monitor or limit to break, i the lowest input that does so in n
abbrev pub ForcedFrom : Decoded → List ℕ → ℕ → ℕ → Type 0
ForcedFrom d t n i = forcing.ForcedBy (List ℕ) (inputs_of d) (outputs_of d) (advance d) (unbroken d) t n i

-- one way of answering, a function of the inputs so far, breaks nothing along every word of every length
abbrev pub HoldsOut : Decoded → List ℕ → Type 0
HoldsOut d t =
    (f : List ℕ → ℕ)
    × ((n : ℕ) (w : List ℕ) → Word (inputs_of d) n w
    → Along (List ℕ) (outputs_of d) (advance d) (Unbroken (List ℕ) (inputs_of d) (outputs_of d) (advance d) (unbroken d)) f t w)

-- the number 23: every number of inputs can be survived from the start
abbrev pub Realizable : Decoded → Type 0
Realizable d = Kept d (first_tuple d)
