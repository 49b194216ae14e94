-- A list into which elements are stored one after the other: by a loop, and by blocks of one size.
-- Assumes nothing.
use Rattle.std.specs.Prelude.{◌≡◌, refl, List, [], ◌∷◌, ℕ, ◌+◌, ◌*◌, length, set}
use Rattle.std.proofs.Common.{sym, ap, ◌∙◌}
use Rattle.std.proofs.lemmas.List.Edits.{sets}
use Rattle.std.proofs.Math.Seq.{length-sets}
use Rattle.records.specs.Meaning.Lists.{tab, cat}
use Rattle.records.specs.Laws.Lists.{length-tab, tab_snoc, cat_none, cat_more, length-cat, sets_append}

-- ---- elements: `now` is `before` with f 0 .. f (i - 1) stored from an index on

pub record Elements (before : List ℕ) (at : ℕ) (f : ℕ → ℕ) (i : ℕ) (now : List ℕ) : Type 0 where
  pub whole : now ≡ sets before at (tab i f)

pub none : {before : List ℕ} {at : ℕ} {f : ℕ → ℕ} → Elements before at f 0 before
unfolding tab
none = record { whole = refl }

module _ {before : List ℕ} {at : ℕ} {f : ℕ → ℕ} {i : ℕ} {now : List ℕ} (s : Elements before at f i now) where
  pub same : length now ≡ length before
  same = ap length s.whole ∙ length-sets before at (tab i f)

  pub more : {x : ℕ} → x ≡ f i → Elements before at f (i + 1) (set now (at + i) x)
  more {x} e =
      record {
        whole =
            ap (λ (y : ℕ). set now (at + i) y) e
            ∙ ap (λ (l : List ℕ). set l (at + i) (f i)) s.whole
            ∙ ap (λ (k : ℕ). set (sets before at (tab i f)) (at + k) (f i)) (sym (length-tab i f))
            ∙ sets_append before at (tab i f) (f i ∷ [])
            ∙ ap (λ (l : List ℕ). sets before at l) (sym (tab_snoc i f));
      }

  pub all : {n : ℕ} → i ≡ n → now ≡ sets before at (tab n f)
  all e = s.whole ∙ ap (λ (j : ℕ). sets before at (tab j f)) e

-- ---- blocks: the same of lists f 0 .. f (k - 1)

pub record Blocks (before : List ℕ) (at : ℕ) (f : ℕ → List ℕ) (k : ℕ) (now : List ℕ) : Type 0 where
  pub whole : now ≡ sets before at (cat k f)

pub no_block : {before : List ℕ} {at : ℕ} {f : ℕ → List ℕ} → Blocks before at f 0 before
no_block {before} {at} {f} = record { whole = ap (λ (l : List ℕ). sets before at l) (sym (cat_none f)) }

module _ {before : List ℕ} {at : ℕ} {f : ℕ → List ℕ} {k : ℕ} {now : List ℕ} (s : Blocks before at f k now) where
  pub same_blocks : length now ≡ length before
  same_blocks = ap length s.whole ∙ length-sets before at (cat k f)

  pub more_blocks : {size : ℕ} → ((q : ℕ) → length (f q) ≡ size)
      → {next : List ℕ} → next ≡ sets now (at + k * size) (f k) → Blocks before at f (k + 1) next
  more_blocks {size} each {next} e =
      record {
        whole =
            e
            ∙ ap (λ (l : List ℕ). sets l (at + k * size) (f k)) s.whole
            ∙ ap (λ (j : ℕ). sets (sets before at (cat k f)) (at + j) (f k)) (sym (length-cat size k f (λ q h. each q)))
            ∙ sets_append before at (cat k f) (f k)
            ∙ ap (λ (l : List ℕ). sets before at l) (sym (cat_more k f));
      }

  pub all_blocks : {n : ℕ} → k ≡ n → now ≡ sets before at (cat n f)
  all_blocks e = s.whole ∙ ap (λ (j : ℕ). sets before at (cat j f)) e
