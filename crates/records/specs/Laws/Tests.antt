-- Boolean tests and the facts behind them: what a definition by cases and a proof about it share.
-- Assumes nothing.
use Rattle.std.specs.Prelude.{◌≡◌, refl, Bool, true, false, not, ◌&&◌, ◌||◌, ℕ}
use Rattle.std.proofs.Common.{◌∙◌, sym, arith, lt-ltb, le-ltb, le-leb, eq-eqb, ne_eqb}
use Rattle.std.proofs.lemmas.Bool.{lt-leb, not-true, not-false}

-- the tests of a definition by cases, answered from the facts at a place: `search cases`
pub ruleset cases = (lt-ltb, le-ltb, le-leb, lt-leb, eq-eqb, ne_eqb, arith)

-- a test cannot be both
pub both_ways {ℓ} : {X : Type ℓ} {b : Bool} → b ≡ true → b ≡ false → X
both_ways p q = absurd (let z : ◌≡◌ {A = ℕ} 0 1 = cc in omega arith)

-- a callee's result, as its contract says it and as a test found it: `if f(x) { .. }`
pub said : {A : Type 0} {r x y : A} → r ≡ x → r ≡ y → x ≡ y
said e f = sym e ∙ f

-- the same of a negated test, `if !f(x) { .. }`: taken, and passed by
pub said_no : {r x : Bool} → r ≡ x → not r ≡ true → x ≡ false
said_no {r} e f = sym e ∙ not-true r f

pub said_yes : {r x : Bool} → r ≡ x → not r ≡ false → x ≡ true
said_yes {r} e f = sym e ∙ not-false r f

-- two cases, by a test
pub by_test {ℓ} : {X : Type ℓ} (b : Bool) → (b ≡ true → X) → (b ≡ false → X) → X
by_test true f g = f refl
by_test false f g = g refl

-- ---- a conjunction

pub and_left : (a b : Bool) → a && b ≡ true → a ≡ true
and_left true b e = refl
and_left false b e = e

pub and_right : (a b : Bool) → a && b ≡ true → b ≡ true
and_right true b e = e
and_right false b e = cc

pub and_both : (a b : Bool) → a ≡ true → b ≡ true → a && b ≡ true
and_both a b p q = rw (p, q)

pub and-not {ℓ} : {X : Type ℓ} (a b : Bool) → a && b ≡ false → (a ≡ false → X) → (b ≡ false → X) → X
and-not true b e f g = g e
and-not false b e f g = f refl

-- ---- a disjunction

pub or_cases {ℓ} : {X : Type ℓ} (a b : Bool) → a || b ≡ true → (a ≡ true → X) → (b ≡ true → X) → X
or_cases true b e f g = f refl
or_cases false b e f g = g e

pub or_left : (a b : Bool) → a ≡ true → a || b ≡ true
or_left a b p = rw p

pub or_right : (a b : Bool) → b ≡ true → a || b ≡ true
or_right true b p = refl
or_right false b p = p

pub or-not : (a b : Bool) → a || b ≡ true → a ≡ false → b ≡ true
or-not true b e f = both_ways e f
or-not false b e f = e
