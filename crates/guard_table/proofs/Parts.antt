-- What a record that is told by its kind says of the kind.
-- Assumes nothing.
use mathlib.Core.Path.{◌≡◌, refl, sym, ap, ◌∙◌}
use mathlib.Core.Bool.{Bool, true, false, cond, ◌||◌}
use Rattle.std.specs.Prelude.{Option, Some, None, MatchOption}
use Rattle.std.specs.Option.{unwrap_or}
use mathlib.Core.List.{List}
use Prim.Native.Nat.{ℕ, ◌+◌, ◌≤◌, ◌<◌}
use lib.Dec.{eqb}
use lib.ListN.{length}
use borrow.Author.Tests.{eqb-true, eq-eqb, ne_eqb, le-leb, lt-leb}
use Rattle.records.specs.Meaning.Numbers.{u16_at}
use Rattle.records.specs.Laws.Tests.{by_test, both_ways, and_both, or_right}
use Rattle.guard_table.specs.Meaning.RowKind.{kind_number}
use Rattle.guard_table.specs.Meaning.GuardTable.{head_kind, header_is, first_kind, shown_length, shows_kind, kind_of}
use Rattle.guard_table.specs.Model.Parts.{part_of}
use Rattle.guard_table.specs.declared.kind.RowKind.{RowKind}
use Rattle.guard_table.specs.declared.kind.RowKind.TheVariants.{Narrow, Wide}
use Rattle.guard_table.specs.declared.part.Part.{Part}
use Rattle.guard_table.specs.contracts.part.PartPartialEq.TheImpl as part_eq
use Rattle.guard_table.specs.declared.part.Part.TheVariants.{Head, Row, Other}

-- a head; a row; a row of a kind; the kind of rows
abbrev pub is_head : Part → Bool
is_head Head = true
is_head (Row kind) = false
is_head Other = false

abbrev pub is_row : Part → Bool
is_row Head = false
is_row (Row kind) = true
is_row Other = false

abbrev pub is_row_of : RowKind → Part → Bool
is_row_of kind Head = false
is_row_of kind (Row found) = eqb (kind_number found) (kind_number kind)
is_row_of kind Other = false

abbrev pub rows_by : Part → RowKind
rows_by Head = Narrow
rows_by (Row kind) = kind
rows_by Other = Narrow

-- what `==` says of a part and a head, and of a part and a row of a kind
pub same_head : (p : Part) → (part_eq.ghosts).eq p Head ≡ is_head p
same_head Head = refl
same_head (Row kind) = refl
same_head Other = refl

pub same_row : (kind : RowKind) (p : Part) → (part_eq.ghosts).eq p (Row kind) ≡ is_row_of kind p
same_row kind Head = refl
same_row Narrow (Row Narrow) = refl
same_row Narrow (Row Wide) = refl
same_row Wide (Row Narrow) = refl
same_row Wide (Row Wide) = refl
same_row kind Other = refl

-- what holds of each number that is told, and of the rest
each : (P : ℕ → Type 0) → P head_kind → P (kind_number Narrow) → P (kind_number Wide)
    → ((n : ℕ) → eqb n head_kind ≡ false → eqb n (kind_number Narrow) ≡ false → eqb n (kind_number Wide) ≡ false → P n) → (n : ℕ) → P n
each P head narrow wide rest n =
    by_test (eqb n head_kind) (λ t. rw (eqb-true n head_kind t) head)
    (λ f. by_test (eqb n (kind_number Narrow)) (λ t. rw (eqb-true n (kind_number Narrow) t) narrow)
    (λ g. by_test (eqb n (kind_number Wide)) (λ t. rw (eqb-true n (kind_number Wide) t) wide) (rest n f g)))

head_told : (n : ℕ) → eqb n head_kind ≡ is_head (part_of n)
unfolding part_of
head_told = each (λ n. eqb n head_kind ≡ is_head (part_of n)) refl refl refl (λ n f g h. rw (f, g, h))

row_told : (kind : RowKind) (n : ℕ) → eqb n (kind_number kind) ≡ is_row_of kind (part_of n)
unfolding part_of
row_told Narrow = each (λ n. eqb n (kind_number Narrow) ≡ is_row_of Narrow (part_of n)) refl refl refl (λ n f g h. rw (f, g, h))
row_told Wide = each (λ n. eqb n (kind_number Wide) ≡ is_row_of Wide (part_of n)) refl refl refl (λ n f g h. rw (f, g, h))

rows_told : (n : ℕ) → eqb n (kind_number Narrow) || eqb n (kind_number Wide) ≡ is_row (part_of n)
unfolding part_of
rows_told = each (λ n. eqb n (kind_number Narrow) || eqb n (kind_number Wide) ≡ is_row (part_of n)) refl refl refl (λ n f g h. rw (f, g, h))

kind_told : (n : ℕ) → cond (eqb n (kind_number Wide)) Wide Narrow ≡ rows_by (part_of n)
unfolding part_of
kind_told = each (λ n. cond (eqb n (kind_number Wide)) Wide Narrow ≡ rows_by (part_of n)) refl refl refl (λ n f g h. rw (f, g, h))

-- ---- the tests of a table, by the part that stands there

module _ (t : List ℕ) where
  pub kind-hidden : length t < shown_length → shows_kind t ≡ false
  unfolding shows_kind
  kind-hidden h = simp (lt-leb shown_length (length t) h)

  module _ {part told : Part} (first : part ≡ part_of (first_kind t)) (e : part ≡ told) where
    pub kind-shown : shown_length ≤ length t → shows_kind t ≡ is_row told
    unfolding shows_kind
    kind-shown h = simp (le-leb shown_length (length t) h) (rows_told (first_kind t) ∙ ap is_row (sym first ∙ e))

    pub kind-found : kind_of t ≡ rows_by told
    unfolding kind_of
    kind-found = kind_told (first_kind t) ∙ ap rows_by (sym first ∙ e)

  -- a slice that is long enough and shows no kind is read as one with narrow rows
  kind-none : shown_length ≤ length t → shows_kind t ≡ false → kind_of t ≡ Narrow
  unfolding shows_kind kind_of
  kind-none h e =
      by_test (eqb (first_kind t) (kind_number Wide)) (λ w. both_ways (and_both _ _ (le-leb shown_length (length t) h) (or_right _ _ w)) e) (λ n. simp n)

  -- so the kind that was found, or else the narrow one, is that by which the rows are read
  pub kind_or-narrow : shown_length ≤ length t → (found : Option RowKind)
      → MatchOption found (shows_kind t ≡ false) (λ kind. (shows_kind t ≡ true) × (kind ≡ kind_of t)) → unwrap_or found Narrow ≡ kind_of t
  kind_or-narrow h None e = sym (kind-none h e)
  kind_or-narrow h (Some kind) e = e.1

  module _ (at size : ℕ) where
    pub header_unsized : (kind : ℕ) {read : ℕ} → read ≡ u16_at t at → (read ≡ size → ⊥) → header_is t at size kind ≡ false
    unfolding header_is
    header_unsized kind r n = simp (ne_eqb (u16_at t at) size (λ e. n (r ∙ e)))

    module _ {read : ℕ} (r : read ≡ u16_at t at) (sized : read ≡ size)
        {part told : Part} (there : part ≡ part_of (u16_at t (at + 2))) (e : part ≡ told) where
      pub header-head : header_is t at size head_kind ≡ is_head told
      unfolding header_is
      header-head = simp (eq-eqb (u16_at t at) size (sym r ∙ sized)) (head_told (u16_at t (at + 2)) ∙ ap is_head (sym there ∙ e))

      pub header_row : (kind : RowKind) → header_is t at size (kind_number kind) ≡ is_row_of kind told
      unfolding header_is
      header_row kind =
          simp (eq-eqb (u16_at t at) size (sym r ∙ sized)) (row_told kind (u16_at t (at + 2)) ∙ ap (is_row_of kind) (sym there ∙ e))
