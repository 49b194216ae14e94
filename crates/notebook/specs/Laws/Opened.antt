-- The definitions that the notebook's figures are computed by: a proof that unfolds one of these names unfolds all that it lists.
-- Assumes nothing.
use Rattle.records.specs.Meaning.Limits.{lines_ok, horizon_ok}
use Rattle.records.specs.Model.Cells.{is_broken, broken_monitor}
use Rattle.records.specs.Meaning.Bounded.{all, any, sum, count}
use Rattle.records.specs.Model.Bounded.{least, top}
use Rattle.records.specs.Meaning.Lists.{tab, cat}
use Rattle.records.specs.Model.Lists.{put}
use Rattle.records.specs.Meaning.Numbers.{u16_at}
use Rattle.records.specs.Meaning.Records.{read_at}
use Rattle.guard_table.specs.Meaning.RowKind.{kind_for}
use Rattle.guard_table.specs.Meaning.GuardTable.{row_length, length_in, row_at, entry_at, header_is, shows_kind, kind_of, output_in, next_in, guard_row, table_in}
use Rattle.game.specs.Model.Numbering.{explore, visit, met, meet, add, find}
use Rattle.game.specs.Model.Choice.{before, against, leader, choose}
use Rattle.sheet.specs.Meaning.Decoded.{guard_lines, letters_read, encode, encode_head, encode_monitor}
use Rattle.sheet.specs.Model.Layout.{with_monitor}
use Rattle.sheet_fields.specs.Meaning.Head.{site_ok, fresh_line, literal_ok, literals_ok, numbers_ok, head_ok}
use Rattle.sheet_fields.specs.Model.Head.{literal_at}
use Rattle.sheet.specs.Model.HeadRecord.{head_sheet, read_head}
use Rattle.sheet_fields.specs.Meaning.Monitor.{role_ok, states_ok, bytes_most, monitor_ok}
use Rattle.sheet.specs.Model.MonitorRecord.{monitor_at, take_monitor}
use Rattle.sheet.specs.Model.Reader.{take_record, on_found, read_records, first_found, reading}
use Rattle.sheet.specs.Meaning.Refusals.{head_number, monitor_number, records_number, sheet_number}
use Rattle.sheet.specs.Model.Where.{automaton, decoded}
use Rattle.game.specs.Meaning.Proposal.{proposal, differs, deviates}
use Rattle.product.specs.Meaning.Step.{site_letter, next_state, accepts, shadowed, shadow_moved, sound, limit_letter, letter_of, monitor_moved, moved, broken, recovers, shadow_agreeing, agreeing, advance, first_tuple, line, equal_lines, soft_reward, reward_by, reward}
use Rattle.product.specs.Model.Stages.{match_reward}
use Rattle.product.specs.Laws.Tuples.{picked, shown}
use Rattle.product.specs.Model.States.{same}
use Rattle.product.specs.Model.Outcome.{ended_by, outcome_of, cell_for}
use Rattle.product.specs.Model.ProductNumbering.{states_after, product_states, state_count, state_of, number_of, cell_of}
use Rattle.rounds.specs.Model.TableRounds.{cell_at, is_in, leads_in, answered, stays, entry_after, round, rounds, settled, mask_of}
use Rattle.solve.specs.Model.Steps.{cells_of, dropped_of}
use Rattle.supervisor.specs.Model.SupervisorOfSheet.{table_head, table_of, supervisor_table}
use Rattle.supervisor_table.specs.Model.MaskRows.{kept_flag, table_row}
use Rattle.solve.specs.Model.Making.{sheet_of, many_number, lost_number, room_number, table_number, making_number, due_number, ordered_number}
use Rattle.values.specs.Meaning.Order.{literal_holds}
use Rattle.values.specs.Model.Rank.{rank_by, rank}
use Rattle.values.specs.Model.Values as values
use Rattle.values.specs.Model.Values.{may_give, earns, score_of, worth, value_row, choice_of, choices}
use Rattle.values.specs.Model.GuardStates.{chosen, follows, guard_states, guard_number}
use Rattle.plan.specs.Model.GuardOfSheet as guard
use Rattle.plan.specs.Model.GuardOfSheet.{gains_of, bonuses_of, sheet_game, values_of, choices_of, guard_of, guard_count, output_of, guard_over, guard_table_by}
use Rattle.board.specs.Meaning.Board.{counts_ok, live, empty_board, run_at}
use Rattle.guard_table.specs.Meaning.Loadable as table
use Rattle.guard_table.specs.Meaning.Loadable.{size_ok, fields_ok, entry_ok, entries_ok, row_ok, rows_ok, loadable}
use Rattle.board.specs.Meaning.Load.{board_of, load_on}
use Rattle.board.specs.Meaning.BoardStep as board
use Rattle.board.specs.Meaning.BoardStep.{length_fits, entry_fits, looked_up, step_on}
use Rattle.notebook.specs.Model.Row.{is_above, is_ordered, test, tests}
use Rattle.game.specs.Model.Rounds.{keeps, kept_after, may}
use Rattle.game.specs.Model.Value.{value}
use Rattle.game.specs.Model.Extreme.{bottom, value_by}
use Rattle.solve.specs.Model.Opening.{opening_number}
use Rattle.forced_rows.specs.Meaning.ForcedBytes.{forced_bytes, forced_length}
use Rattle.forced_rows.specs.Model.ForcedRows.{before_round, forces_at, forcing_input, breaker_in, breaker_at, forced_row}
use Rattle.forced.specs.Model.ForcedOfSheet.{forced_of, forced_size, held_number}
use Rattle.averages.specs.Meaning.Averages.{average_of}
use Rattle.card.specs.Model.Card.{averages_of, card_entry, card_entry_at, lost_entries, lost_card, card_of}
use Rattle.card_words.specs.Meaning.CardWords.{entry_words, card_words}
use Rattle.forecast.specs.Model.Forecast.{bests_of, leasts_of, forecast_card}
use Rattle.std.specs.Float.Ieee as float
use Rattle.notebook.specs.Model.Figures.{card_front, tuple_by, scores_at, outputs_from, board_from, outputs, deviations_shown}

-- lists and numbers
unfoldable pub lists : Unit {0}
unfolding all any least sum top count tab cat put u16_at lines_ok horizon_ok same tests test is_ordered is_above
lists = tt

-- a sheet's bytes, and how they are read
unfoldable pub sheets : Unit {0}
unfolding lists encode encode_head encode_monitor read_at guard_lines letters_read site_ok fresh_line literal_ok literals_ok numbers_ok head_ok
    literal_at head_sheet read_head
    with_monitor role_ok states_ok bytes_most monitor_ok monitor_at take_monitor take_record on_found read_records first_found reading
    head_number monitor_number records_number sheet_number automaton decoded sheet_of
sheets = tt

-- steps, product states, rounds and the supervisor table
unfoldable pub supervisors : Unit {0}
unfolding lists proposal differs site_letter next_state accepts shadowed shadow_moved sound limit_letter letter_of monitor_moved moved broken
    recovers shadow_agreeing agreeing advance ended_by outcome_of cell_for first_tuple
    explore visit met meet add find states_after product_states state_count state_of number_of cell_of
    cell_at is_broken is_in leads_in answered stays entry_after round rounds settled mask_of
    cells_of dropped_of kept_flag table_head table_row table_of supervisor_table many_number lost_number room_number table_number making_number
supervisors = tt

-- rewards, values, choices and the guard table
unfoldable pub guards : Unit {0}
unfolding supervisors line equal_lines soft_reward gains_of match_reward bonuses_of sheet_game before against leader choose
    literal_holds rank_by rank
    may_give values.cell_next earns score_of worth value_row values_of choice_of choices choices_of chosen follows guard_states guard_number
    guard_of guard_count output_of guard.next_of kind_for guard_row table_in guard_over guard_table_by
guards = tt

-- sums, averages and the forecast card
unfoldable pub forecasts : Unit {0}
unfolding guards opening_number reward_by reward keeps kept_after may value scores_at bottom value_by bests_of leasts_of average_of float.round float.to_bits averages_of card_entry card_entry_at
    lost_entries lost_card card_of forecast_card entry_words card_words card_front
forecasts = tt

-- how a break is forced
unfoldable pub plays : Unit {0}
unfolding supervisors due_number ordered_number forced_bytes forced_length before_round forces_at forcing_input broken_monitor breaker_in breaker_at
    forced_row forced_of forced_size held_number
plays = tt

-- product states on a run
unfoldable pub runs : Unit {0}
unfolding supervisors picked shown tuple_by
runs = tt

-- load and step
unfoldable pub boards : Unit {0}
unfolding lists row_length length_in row_at entry_at header_is shows_kind kind_of output_in next_in counts_ok live empty_board run_at size_ok fields_ok
    table.table_head_ok entry_ok entries_ok row_ok rows_ok
    loadable board_of load_on proposal differs deviates length_fits entry_fits board.board_moved looked_up step_on outputs_from board_from outputs
    deviations_shown
boards = tt
