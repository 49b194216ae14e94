-- The limit on product states enters no answer: what each maker's table, play and card mean leaves no choice, and names no limit but the
-- card's number of entries.
-- Assumes nothing.
use Rattle.std.specs.Prelude.{◌≡◌, ℕ, ◌≤◌, ◌<◌, length}
use Rattle.std.proofs.Common.{ap, ◌∙◌, arith, get_or-take, length-take-le}
use Rattle.records.specs.Meaning.Limits.{max_states}
use Rattle.guard_table.specs.Meaning.RowKind.{narrow_most}
use Rattle.sheet.specs.Meaning.Decoded.{Decoded, SheetOk}
use Rattle.product.specs.Meaning.Step.{first_tuple}
use Rattle.product.specs.Model.ProductNumbering.{product_states, state_count}
use Rattle.product.specs.Laws.Ordered.{product_states_lem}
use Rattle.solve.specs.Meaning.Allowed.{Kept}
use Rattle.solve.specs.Laws.Judging.{accepted_layout}
use Rattle.solve.specs.Laws.RefusalOrder.{few_fit}
use Rattle.supervisor.specs.Laws.Permissive.{means}
use Rattle.supervisor.specs.Laws.Only.{only_table}
use Rattle.plan.specs.Model.GuardOfSheet.{guard_table_by, guard_table_of, states_of}
use Rattle.guard.specs.Promises.GuardMaker.{Rows}
use Rattle.guard.specs.Laws.GuardRows.{table-rows, only_rows, rows_few}
use Rattle.card.specs.Meaning.Card.{averages_in, lost_entry}
use Rattle.card.specs.Laws.Card.{card_length_lem}
use Rattle.card.specs.declared.Card.{Card}
use Rattle.forecast.specs.Model.Forecast.{forecast_card}
use Rattle.forecast.specs.Promises.Forecast.{says_of, ForetellsWithin, Foretells}
use Rattle.forecast.specs.Laws.Foretells.{foretells, only_card}
use Rattle.forced.specs.Laws.Shown.{shows}
use Rattle.forced.specs.Laws.Only.{only_answer}
use Rattle.hundlezoqa_c.specs.Promises.SmallerLimit.{Keeps, cut_card, SameAnswers, SamePlay, SmallerLimit}

-- ---- a card that is cut

module _ {limit : ℕ} (small : limit ≤ max_states) {d : Decoded} {c : Card} (x : Foretells d c) (few : c.count ≤ limit) where
  -- says of the entries that are left what it said
  says : (k : ℕ) → k < limit → averages_in (says_of (cut_card limit c) k) ≡ averages_in (says_of c k)
  says k h = ap averages_in (get_or-take limit c.entries k lost_entry h)

  -- and they are enough
  cut_foretells : ForetellsWithin limit d (cut_card limit c)
  cut_foretells =
      record {
        tuples = x.tuples;
        numbered = x.numbered;
        count_is = x.count_is;
        few = few;
        lost = λ k h. rw (says k (omega arith)) (x.lost k h);
        worth = λ k h kept. let w = x.worth k h kept in (w.0, says k (omega arith) ∙ w.1, w.2);
        past = λ k h l. says k l ∙ x.past k h (omega arith);
      }

-- ---- a sheet that keeps a smaller limit

module _ (limit : ℕ) (d : Decoded) (ok : SheetOk d) (fits : state_count d ≤ max_states) (keeps : Keeps limit d) where
  few_states : state_count d ≤ limit
  unfolding state_count
  few_states = keeps (product_states d) (product_states_lem d (unfold state_count in fits))

  same-play : SamePlay limit d
  same-play =
      record {
        play = λ n bytes x. (omega (arith, keeps x.tuples x.numbered, x.count), only_answer d x (shows d fits ok));
        play_is = shows d fits ok;
      }

  module _ (realizable : Kept d (first_tuple d)) (small : limit ≤ max_states) where
    rows : Rows d d.horizon (states_of d) (guard_table_of d)
    unfolding guard_table_by
    rows = table-rows d ok fits realizable d.horizon

    foretold : Foretells d (forecast_card d)
    foretold = foretells d ok fits

    few_entries : (forecast_card d).count ≤ limit
    few_entries = omega (arith, keeps foretold.tuples foretold.numbered, foretold.count_is)

    whole : length (forecast_card d).entries ≡ max_states
    unfolding forecast_card
    whole = card_length_lem _ _ _ _ _

    cut_size : length (cut_card limit (forecast_card d)).entries ≡ limit
    cut_size = length-take-le limit (forecast_card d).entries (omega (arith, whole))

    cut : ForetellsWithin limit d (cut_card limit (forecast_card d))
    cut = cut_foretells small foretold few_entries

    same_tables : SameAnswers limit d
    same_tables =
        record {
          supervisor = λ n table x.
              (omega (arith, keeps x.tuples x.numbered, x.count), (only_table d x (means d fits ok realizable)).1);
          supervisor_is = means d fits ok realizable;
          guard = λ n table x. (
            omega (arith, rows_few d ok fits realizable d.horizon x, few_states),
            (only_rows d ok fits realizable d.horizon x rows).1,
          );
          guard_is = rows;
          card = λ c size x. only_card d fits x cut size cut_size;
          card_size = cut_size;
          card_is = cut;
          past = λ k h l. foretold.past k (omega (arith, few_entries)) l;
        }

pub same_answers : (limit : ℕ) → limit ≤ max_states → SmallerLimit limit
same_answers limit small =
    record {
      answers = λ s d a keeps. same_tables limit d a.sheet.in_bounds (accepted_layout a) keeps a.realizable small;
      plays = λ s d x few keeps. same-play limit d x.in_bounds (few_fit d few) keeps;
    }

-- at document 01's limit; that the guard's rows are then narrow is a clause of its maker
pub same_256 : SmallerLimit narrow_most
same_256 = same_answers narrow_most (omega arith)
