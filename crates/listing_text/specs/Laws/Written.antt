-- Laws of text that a writer puts piece by piece: words and blocks one after the other, and the room for them.
-- Assumes nothing.
use Rattle.std.specs.Prelude.{◌≡◌, refl, List, ◌++◌, ℕ, ◌+◌, ◌<◌}
use Rattle.std.proofs.Common.{ap, ◌∙◌, arith, length-append}
use Rattle.records.specs.Meaning.Lists.{cat}
use Rattle.records.specs.Laws.Lists.{cat_more}
use Rattle.listing_text.specs.Model.Put.{Put}
use Rattle.listing_text.specs.Model.Puts.{Fits, Puts}
use Rattle.listing_text.specs.Laws.Pieces.{put_then, piece_none, fits_rest, fits_next}
use Rattle.listing_text.specs.declared.writer.Writer.{Writer}

pub puts_then : {a b c : Writer} {xs ys : List ℕ} → Puts a xs b → Puts b ys c → Puts a (xs ++ ys) c
puts_then p q = record { put = put_then p.put q.put; same_reference = q.same_reference ∙ p.same_reference }

pub puts_as : {a b : Writer} {xs ys : List ℕ} → Puts a xs b → xs ≡ ys → Puts a ys b
puts_as p e = rw e at p

-- where two pieces fit, so do the first, and behind it the second
pub fits_first : (a : Writer) (xs ys : List ℕ) → Fits a (xs ++ ys) → Fits a xs
fits_first a xs ys h = omega (arith, h, length-append xs ys)

pub fits_second : {a b : Writer} {xs : List ℕ} → Puts a xs b → (ys : List ℕ) → Fits a (xs ++ ys) → Fits b ys
fits_second p ys h = fits_rest p.put ys h

-- blocks, as a loop puts them
pub puts_none : (a : Writer) (f : ℕ → List ℕ) → Puts a (cat 0 f) a
puts_none a f = record { put = piece_none _ _ f; same_reference = refl }

pub puts_more : (f : ℕ → List ℕ) (k : ℕ) {a b c : Writer} → Puts a (cat k f) b → Puts b (f k) c → Puts a (cat (k + 1) f) c
puts_more f k p q = rw cat_more (puts_then p q)

pub puts_all : (f : ℕ → List ℕ) (k n : ℕ) → k ≡ n → {a b : Writer} → Puts a (cat k f) b → Puts a (cat n f) b
puts_all f k n e p = puts_as p (ap (λ (m : ℕ). cat m f) e)

pub block_fits : (f : ℕ → List ℕ) (k n : ℕ) → k < n → {a b : Writer} → Puts a (cat k f) b → Fits a (cat n f) → Fits b (f k)
block_fits f k n h p room = fits_next f k n h p.put room

-- what stands in a text memory that a writer wrote from its start
pub put_of : {a b : Writer} {before words after : List ℕ} → Puts a words b → a.at ≡ 0 → a.text.now ≡ before → after ≡ b.text.now
    → Put before 0 words b.at after
put_of p start from to = rw (← start, ← from, to) p.put
