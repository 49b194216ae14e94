-- The loop over outputs: the span so far.
-- Assumes nothing.
use Rattle.std.specs.Prelude.{◌≡◌, refl, Bool, cond, Option, Some, None, List, [], ℕ, max, ◌+◌, ◌*◌, ◌≤◌, ◌<◌, length}
use Rattle.std.proofs.Common.{ap, sym, ◌∙◌, add-one, arith}
use Rattle.std.proofs.lemmas.Option.{cond_some, none-some}
use Rattle.std.proofs.Math.Bool.{true, false}
use Rattle.records.specs.Meaning.Bounded.{any}
use Rattle.records.specs.Model.Bounded.{top}
use Rattle.records.specs.Laws.Bounded.{any_of, any-not, top_more, top_le}
use Rattle.records.specs.Laws.Tests.{both_ways, by_test}
use Rattle.game.specs.Model.Extreme.{bottom}
use Rattle.game.specs.Laws.Extreme.{bottom_more, bottom-top}
use Rattle.rounds.specs.Model.TableRounds.{cell_at}
use Rattle.rounds.specs.Laws.CellPlaces.{max_index, InRow, in_row, cell_in}
use Rattle.values.specs.Model.Values.{Game, may_give, cell_next, score_of}
use Rattle.values.specs.Model.Sizes.{Ready}
use Rattle.values.specs.Model.Arrivals.{score_in, Scored, offer_of}
use Rattle.values.specs.Laws.Sizes.{steps_of, next_low, scored_at, score_read, cell_letter_low}
use Rattle.values.specs.Laws.Arrivals.{offered, refused}
use Rattle.outlook.specs.Model.Spans.{no_span, widened, span_before, span_of}
use Rattle.outlook.specs.declared.span.Span.{Span}

-- what reading the cell of an output that may be given asks, and the score of its step
pub record Lands (g : Game) (leasts : List ℕ) (factor k i o : ℕ) : Type 0 where
  pub row : InRow g.ins g.outs k i o
  pub cell : cell_at g.ins g.outs k i o < length g.cells
  pub letter : i + g.ins * o < length g.bonuses
  pub scored : (to : ℕ) → to ≡ cell_next g k i o → Scored g.bonuses leasts factor to (i + g.ins * o)

module _ {g : Game} {leasts : List ℕ} {factor k : ℕ} (ready : Ready g leasts factor k) {i o : ℕ} (hi : i < g.ins) (ho : o < g.outs) where
  pub lands : length g.cells ≤ max_index → (bests : List ℕ) {score : ℕ} → Some score ≡ offer_of g bests factor k i o
      → Lands g leasts factor k i o
  lands size bests e =
      let s = ready.sized in
      let may : may_give g k i o ≡ true = (offered g bests factor k i o e).0 in
      record {
        row = in_row (steps_of s) size ready.state hi ho;
        cell = omega (arith, cell_in (steps_of s) ready.state hi ho, s.rows);
        letter = omega (arith, cell_letter_low hi ho, s.bonuses);
        scored = λ to e. scored_at s ready.valued (rw e (next_low s ready.state hi ho may)) hi ho;
      }

-- whether some number passes, with one more that does or does not
any-with : (n : ℕ) (p : ℕ → Bool) → p n ≡ true → any (n + 1) p ≡ true
any-with n p e = any_of (n + 1) p n (omega arith) e

any_without : (n : ℕ) (p : ℕ → Bool) → p n ≡ false → any (n + 1) p ≡ any n p
unfolding any
any_without n p e = rw (add-one, e) (by_test (any n p) (λ y. rw y) (λ y. rw y))

-- if none passes, the largest and the smallest are 0
module _ (n : ℕ) (p : ℕ → Bool) (f : ℕ → ℕ) (e : any n p ≡ false) where
  top_zero : top n p f ≡ 0
  top_zero = omega (arith, top_le n p f 0 (λ o h may. both_ways may (any-not n p e o h)))

  bottom_zero : bottom n p f ≡ 0
  bottom_zero = omega (arith, top_zero, bottom-top n p f f (λ o h may. omega arith))

-- a span, and none, of a test
span_if : (b : Bool) (s t : Span) → Some t ≡ cond b (Some s) None → t ≡ s
span_if b s t e = sym (cond_some b s t (sym e)).1

no_span_if : (b : Bool) (s : Span) → None ≡ cond b (Some s) None → b ≡ false
no_span_if true s e = absurd (none-some s e)
no_span_if false s e = refl

module _ (g : Game) (bests leasts : List ℕ) (factor k i : ℕ) where
  abbrev pub before : ℕ → Option Span
  before o = span_before g bests leasts factor k i o

  pub span_begin : no_span ≡ before 0
  unfolding span_before any
  span_begin = refl

  module _ (o : ℕ) where
    -- with an output that may be given
    pub span_more : {score least to : ℕ} {span : Option Span} {span' : Span} → g.gains ≡ []
        → Some score ≡ offer_of g bests factor k i o → span ≡ before o
        → to ≡ cell_next g k i o → least ≡ score_in g.bonuses leasts factor to (i + g.ins * o)
        → span' ≡ widened span score least → Some span' ≡ before (o + 1)
    unfolding span_before widened
    span_more {least = least} none e b t l w =
        let may = offered g bests factor k i o e in
        let low : least ≡ score_of g leasts factor k i o = l ∙ rw t (score_read g none leasts factor k i o) in
        rw (w, b, may.1, low, top_more, bottom_more, any-with o (may_give g k i) may.0, may.0)
        (by_test (any o (may_give g k i))
        (λ some. rw some)
        (λ none.
        let first : max 0 (score_of g bests factor k i o) ≡ score_of g bests factor k i o = omega arith in
        rw (none, top_zero o (may_give g k i) (score_of g bests factor k i) none, first)))

    -- and without
    pub span_same : None ≡ offer_of g bests factor k i o → {span : Option Span} → span ≡ before o → span ≡ before (o + 1)
    unfolding span_before
    span_same e b =
        let may : may_give g k i o ≡ false = refused g bests factor k i o e in
        b ∙ rw (top_more, bottom_more, any_without o (may_give g k i) may, may)

  pub span_end : (o : ℕ) {span : Option Span} → o ≡ g.outs → span ≡ before o → span ≡ span_of g bests leasts factor k i
  unfolding span_of
  span_end o q b = b ∙ rw q

  -- both figures of a span, which are 0 of none
  pub spanned : {span : Span} → Some span ≡ span_of g bests leasts factor k i
      → (span.best ≡ top g.outs (may_give g k i) (score_of g bests factor k i))
      × (span.least ≡ bottom g.outs (may_give g k i) (score_of g leasts factor k i))
  unfolding span_of span_before
  spanned e = let h = span_if _ _ _ e in (ap (λ (s : Span). s.best) h, ap (λ (s : Span). s.least) h)

  pub unspanned : None ≡ span_of g bests leasts factor k i
      → (0 ≡ top g.outs (may_give g k i) (score_of g bests factor k i))
      × (0 ≡ bottom g.outs (may_give g k i) (score_of g leasts factor k i))
  unfolding span_of span_before
  unspanned e =
      let none = no_span_if _ _ e in (
        sym (top_zero g.outs (may_give g k i) (score_of g bests factor k i) none),
        sym (bottom_zero g.outs (may_give g k i) (score_of g leasts factor k i) none),
      )
