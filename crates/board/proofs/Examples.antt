-- Small tables on the board, by computation: a load, and refusals.
-- Assumes nothing.
use mathlib.Core.Path.{◌≡◌, refl}
use mathlib.Core.List.{List, [], ◌∷◌}
use Prim.Native.Nat.{ℕ, ◌-◌}
use Rattle.records.specs.Meaning.Bounded.{all}
use Rattle.records.specs.Meaning.Numbers.{u16_at}
use Rattle.records.specs.Meaning.Limits.{lines_ok, horizon_ok}
use Rattle.guard_table.specs.Meaning.RowKind.{next_at}
use Rattle.guard_table.specs.Meaning.GuardTable.{row_length, length_in, row_at, entry_at, header_is, shows_kind, kind_of, output_in, next_in, guard_row, table_in}
use Rattle.records.specs.Meaning.Lists.{cat}
use Rattle.guard_table.specs.declared.kind.RowKind.TheVariants.{Wide}
use Rattle.board.specs.Meaning.Board.{counts_ok, live, empty_board, run_at}
use Rattle.guard_table.specs.Meaning.Loadable.{size_ok, fields_ok, table_head_ok, entry_ok, entries_ok, row_ok, rows_ok, loadable}
use Rattle.board.specs.Meaning.Load.{board_of, load_on, load_number}
use Rattle.game.specs.Meaning.Proposal.{proposal, differs, deviates}
use Rattle.board.specs.Meaning.BoardStep.{length_fits, entry_fits, board_moved, looked_up, step_on, step_number}

-- one state, always off
abbrev off : List ℕ
off = 6 ∷ 0 ∷ 16 ∷ 0 ∷ 0 ∷ 1 ∷ 1 ∷ 0 ∷ 1 ∷ 0 ∷ 4 ∷ 0 ∷ 17 ∷ 0 ∷ 0 ∷ 0 ∷ 0 ∷ 0 ∷ []

-- a table of another length: two states, off and on in turn
abbrev turns : List ℕ
turns =
    6 ∷ 0 ∷ 16 ∷ 0 ∷ 0 ∷ 1 ∷ 1 ∷ 0 ∷ 2 ∷ 0
    ∷ 4 ∷ 0 ∷ 17 ∷ 0 ∷ 0 ∷ 1 ∷ 0 ∷ 1
    ∷ 4 ∷ 0 ∷ 17 ∷ 0 ∷ 1 ∷ 0 ∷ 1 ∷ 0
    ∷ []

-- the same in wide rows, and its first row alone, whose second is narrow
abbrev turns_wide : List ℕ
turns_wide =
    6 ∷ 0 ∷ 16 ∷ 0 ∷ 0 ∷ 1 ∷ 1 ∷ 0 ∷ 2 ∷ 0
    ∷ 6 ∷ 0 ∷ 20 ∷ 0 ∷ 0 ∷ 1 ∷ 0 ∷ 0 ∷ 1 ∷ 0
    ∷ 6 ∷ 0 ∷ 20 ∷ 0 ∷ 1 ∷ 0 ∷ 0 ∷ 1 ∷ 0 ∷ 0
    ∷ []

abbrev turns_mixed : List ℕ
turns_mixed =
    6 ∷ 0 ∷ 16 ∷ 0 ∷ 0 ∷ 1 ∷ 1 ∷ 0 ∷ 2 ∷ 0
    ∷ 6 ∷ 0 ∷ 20 ∷ 0 ∷ 0 ∷ 1 ∷ 0 ∷ 0 ∷ 1 ∷ 0
    ∷ 4 ∷ 0 ∷ 17 ∷ 0 ∷ 1 ∷ 0 ∷ 1 ∷ 0 ∷ 0 ∷ 0
    ∷ []

-- a slice that is cut before its first row's kind, which 0 past the end would make a narrow one
abbrev hidden : List ℕ
hidden = 6 ∷ 0 ∷ 16 ∷ 0 ∷ 0 ∷ 0 ∷ 1 ∷ 0 ∷ 0 ∷ 0 ∷ 2 ∷ 0 ∷ 17 ∷ []

pub record Examples : Type 0 where
  pub loads : load_number (load_on empty_board off).answer ≡ 0
  pub steps : step_number (step_on (board_of off) off 1).answer ≡ 0
  pub letter : step_number (step_on (board_of off) off 2).answer ≡ 12
  pub occupied : load_number (load_on (board_of off) turns).answer ≡ 21
  pub other_table : step_number (step_on (board_of off) turns 0).answer ≡ 11
  pub wide_is : turns_wide ≡ table_in Wide 0 1 1 0 2 (λ k i. k) (λ k i. 1 - k)
  pub two_bytes : next_at Wide (0 ∷ 44 ∷ 1 ∷ []) 1 ≡ 300
  pub wide_loads : load_number (load_on empty_board turns_wide).answer ≡ 0
  pub wide_steps : step_on (board_of turns) turns_wide 0 ≡ step_on (board_of turns) turns 0
  pub mixed : load_number (load_on empty_board turns_mixed).answer ≡ 11
  pub short : step_number (step_on (board_of turns) hidden 0).answer ≡ 11
  pub cut : load_number (load_on empty_board (6 ∷ 0 ∷ 16 ∷ 0 ∷ [])).answer ≡ 11

pub examples : Examples
unfolding all cat u16_at lines_ok horizon_ok row_length length_in entry_at header_is shows_kind kind_of output_in next_in guard_row table_in row_at counts_ok live empty_board run_at
    size_ok fields_ok table_head_ok entry_ok entries_ok row_ok rows_ok loadable board_of load_on
    proposal differs deviates length_fits entry_fits board_moved looked_up step_on
examples =
    record {
      loads = refl;
      steps = refl;
      letter = refl;
      occupied = refl;
      other_table = refl;
      wide_is = refl;
      two_bytes = refl;
      wide_loads = refl;
      wide_steps = refl;
      mixed = refl;
      short = refl;
      cut = refl;
    }
