-- Document 01's notebook, P1 to P10, as one table, with other sheets, forecasts, plays and a recovery: every row holds.
-- Assumes nothing.
use Rattle.std.specs.Prelude.{refl, List, [], ◌∷◌}
use Rattle.sheet.specs.Meaning.Decoded.{encode}
use Rattle.notebook.specs.Model.Sheets.{decoded_a, sheet_a, sheet3, sheet4, sheet5, sheet6, sheet7, sheet8, sheet9, sheet10, idle}
use Rattle.notebook.specs.Model.Sheets.{limit_sheet, strict_sheet, letter_sheet, soon_sheet, both_sheet}
use Rattle.notebook.specs.Model.Row.{Row, is, are, ordered, AllHold, all_hold}
use Rattle.notebook.specs.Model.Figures.{supervisor_number, guard_answer, forecast_number, best_sums, least_sums, card_front, forced_number, play, supervisor, guard, states, scores, literals, outputs, deviations_shown}
use Rattle.notebook.specs.Model.Figures.{tuple_after, former_after, tuple, letter, whole}
use Rattle.notebook.specs.Laws.Opened.{sheets, supervisors, guards, forecasts, plays, runs, boards}

abbrev pub rows : List Row
rows =
    -- sheet A: never on twice running; 3 for output equal to input; its guard as listed
    are (encode decoded_a) sheet_a
    ∷ are (guard sheet_a)
    (6 ∷ 0 ∷ 16 ∷ 0 ∷ 0 ∷ 1 ∷ 1 ∷ 1 ∷ 3 ∷ 0
    ∷ 4 ∷ 0 ∷ 17 ∷ 0 ∷ 0 ∷ 1 ∷ 1 ∷ 2
    ∷ 4 ∷ 0 ∷ 17 ∷ 0 ∷ 0 ∷ 1 ∷ 1 ∷ 2
    ∷ 4 ∷ 0 ∷ 17 ∷ 0 ∷ 0 ∷ 1 ∷ 0 ∷ 0
    ∷ [])
    -- P1: A has 4 product states; masks 3, 3 in 0 and 1; 1, 1 in 2 and 3
    ∷ is (supervisor_number sheet_a) 0
    ∷ is (guard_answer sheet_a) 0
    ∷ is (states sheet_a) 4
    ∷ are (supervisor sheet_a)
    (5 ∷ 0 ∷ 19 ∷ 0 ∷ 0 ∷ 1 ∷ 1 ∷ 4 ∷ 0
    ∷ 3 ∷ 0 ∷ 18 ∷ 0 ∷ 1 ∷ 3 ∷ 3
    ∷ 3 ∷ 0 ∷ 18 ∷ 0 ∷ 1 ∷ 3 ∷ 3
    ∷ 3 ∷ 0 ∷ 18 ∷ 0 ∷ 1 ∷ 1 ∷ 1
    ∷ 3 ∷ 0 ∷ 18 ∷ 0 ∷ 1 ∷ 1 ∷ 1
    ∷ [])
    -- P2: A, state 0: input 0 scores off 12, on 3; input 1 off 6, on 9
    ∷ are (scores sheet_a 0) (12 ∷ 3 ∷ [])
    ∷ are (scores sheet_a 1) (6 ∷ 9 ∷ [])
    -- A's forecast over its one step: in 0 and 1 at best 3 at each input and at least 0, in 2 and 3 only off: 3 at input 0, 0 at input 1;
    -- averages 3.0 and 0.0, then 1.5 both
    ∷ is (forecast_number sheet_a) 0
    ∷ are (best_sums sheet_a) (6 ∷ 6 ∷ 3 ∷ 3 ∷ [])
    ∷ are (least_sums sheet_a) (0 ∷ 0 ∷ 3 ∷ 3 ∷ [])
    ∷ are (card_front 5 sheet_a)
    (4
    ∷ 0x4008_0000_0000_0000 ∷ 0
    ∷ 0x4008_0000_0000_0000 ∷ 0
    ∷ 0x3ff8_0000_0000_0000 ∷ 0x3ff8_0000_0000_0000
    ∷ 0x3ff8_0000_0000_0000 ∷ 0x3ff8_0000_0000_0000
    ∷ 0xffff_ffff_ffff_ffff ∷ 0xffff_ffff_ffff_ffff
    ∷ [])
    -- P3: A plus hard "input on, so output on": refused 8
    ∷ is (supervisor_number sheet3) 8
    ∷ is (guard_answer sheet3) 8
    ∷ is (forecast_number sheet3) 8
    -- its play: input on from the start forces on, and then on again, where every answer breaks: off monitor 2, on monitor 0; A has
    -- none, for A is realizable
    ∷ is (forced_number sheet3) 0
    ∷ are (play sheet3)
    (2 ∷ 0 ∷ 1 ∷ 255 ∷ 255
    ∷ 2 ∷ 0 ∷ 1 ∷ 255 ∷ 255
    ∷ 1 ∷ 0 ∷ 1 ∷ 2 ∷ 0
    ∷ 1 ∷ 0 ∷ 1 ∷ 2 ∷ 0
    ∷ [])
    ∷ is (forced_number sheet_a) 23
    -- input on breaks at once, input off one step later: the lowest input is the lowest of the soonest
    ∷ is (forced_number soon_sheet) 0
    ∷ are (play soon_sheet)
    (1 ∷ 0 ∷ 1 ∷ 0 ∷ 0
    ∷ 1 ∷ 0 ∷ 0 ∷ 0 ∷ 0
    ∷ [])
    -- where two monitors break at once, the lower one is named; the soft one before them counts
    ∷ is (forced_number both_sheet) 0
    ∷ are (play both_sheet)
    (1 ∷ 0 ∷ 1 ∷ 1 ∷ 1
    ∷ 1 ∷ 0 ∷ 0 ∷ 1 ∷ 1
    ∷ 1 ∷ 0 ∷ 0 ∷ 1 ∷ 1
    ∷ [])
    -- P4: head alone, one line each way, on preferred: one state, mask 3, output 1
    ∷ is (supervisor_number sheet4) 0
    ∷ is (guard_answer sheet4) 0
    ∷ is (states sheet4) 1
    ∷ are (supervisor sheet4) (5 ∷ 0 ∷ 19 ∷ 0 ∷ 0 ∷ 1 ∷ 1 ∷ 1 ∷ 0 ∷ 3 ∷ 0 ∷ 18 ∷ 0 ∷ 1 ∷ 3 ∷ 3 ∷ [])
    ∷ are (guard sheet4) (6 ∷ 0 ∷ 16 ∷ 0 ∷ 0 ∷ 1 ∷ 1 ∷ 0 ∷ 1 ∷ 0 ∷ 4 ∷ 0 ∷ 17 ∷ 0 ∷ 1 ∷ 0 ∷ 1 ∷ 0 ∷ [])
    -- P5: one hard state that does not accept at the start, all moves to one that does: accepted
    ∷ is (supervisor_number sheet5) 0
    ∷ is (guard_answer sheet5) 0
    -- P6: never on twice; 4 for on at input 0, 3 for on at input 1. Start, input 1: on at H = 0
    ∷ is (supervisor_number (sheet6 0)) 0
    ∷ is (guard_answer (sheet6 0)) 0
    ∷ are (scores (sheet6 0) 1) (0 ∷ 3 ∷ [])
    ∷ are (guard (sheet6 0))
    (6 ∷ 0 ∷ 16 ∷ 0 ∷ 0 ∷ 1 ∷ 1 ∷ 0 ∷ 3 ∷ 0
    ∷ 4 ∷ 0 ∷ 17 ∷ 0 ∷ 1 ∷ 1 ∷ 1 ∷ 2
    ∷ 4 ∷ 0 ∷ 17 ∷ 0 ∷ 0 ∷ 0 ∷ 0 ∷ 0
    ∷ 4 ∷ 0 ∷ 17 ∷ 0 ∷ 0 ∷ 0 ∷ 0 ∷ 0
    ∷ [])
    -- over no steps nothing is earned
    ∷ are (card_front 1 (sheet6 0)) (states (sheet6 0) ∷ 0 ∷ 0 ∷ [])
    -- off at H = 1 (7 against 6)
    ∷ is (supervisor_number (sheet6 1)) 0
    ∷ is (guard_answer (sheet6 1)) 0
    ∷ are (scores (sheet6 1) 1) (7 ∷ 6 ∷ [])
    ∷ are (guard (sheet6 1))
    (6 ∷ 0 ∷ 16 ∷ 0 ∷ 0 ∷ 1 ∷ 1 ∷ 1 ∷ 2 ∷ 0
    ∷ 4 ∷ 0 ∷ 17 ∷ 0 ∷ 1 ∷ 1 ∷ 0 ∷ 0
    ∷ 4 ∷ 0 ∷ 17 ∷ 0 ∷ 0 ∷ 0 ∷ 0 ∷ 0
    ∷ [])
    -- P7: shield, m = 0, one output, never on twice, match 1, H = 0: proposals 1, 1, 1, 1 give 1, 0, 1, 0, deviations 2
    ∷ is (supervisor_number sheet7) 0
    ∷ is (guard_answer sheet7) 0
    ∷ are (outputs (guard sheet7) (1 ∷ 1 ∷ 1 ∷ 1 ∷ [])) (1 ∷ 0 ∷ 1 ∷ 0 ∷ [])
    ∷ is (deviations_shown (guard sheet7) (1 ∷ 1 ∷ 1 ∷ 1 ∷ [])) 2
    -- its product states (hard, copy) are 00, 01, 10, 11, 02, 12, and the guard meets 00, 11, 02
    ∷ are (supervisor sheet7)
    (5 ∷ 0 ∷ 19 ∷ 0 ∷ 1 ∷ 1 ∷ 1 ∷ 6 ∷ 0
    ∷ 3 ∷ 0 ∷ 18 ∷ 0 ∷ 1 ∷ 3 ∷ 3
    ∷ 3 ∷ 0 ∷ 18 ∷ 0 ∷ 1 ∷ 3 ∷ 3
    ∷ 3 ∷ 0 ∷ 18 ∷ 0 ∷ 1 ∷ 1 ∷ 1
    ∷ 3 ∷ 0 ∷ 18 ∷ 0 ∷ 1 ∷ 1 ∷ 1
    ∷ 3 ∷ 0 ∷ 18 ∷ 0 ∷ 1 ∷ 3 ∷ 3
    ∷ 3 ∷ 0 ∷ 18 ∷ 0 ∷ 1 ∷ 1 ∷ 1
    ∷ [])
    ∷ are (guard sheet7)
    (6 ∷ 0 ∷ 16 ∷ 0 ∷ 1 ∷ 1 ∷ 1 ∷ 0 ∷ 3 ∷ 0
    ∷ 4 ∷ 0 ∷ 17 ∷ 0 ∷ 0 ∷ 0 ∷ 1 ∷ 1
    ∷ 4 ∷ 0 ∷ 17 ∷ 0 ∷ 0 ∷ 0 ∷ 0 ∷ 2
    ∷ 4 ∷ 0 ∷ 17 ∷ 0 ∷ 0 ∷ 0 ∷ 1 ∷ 1
    ∷ [])
    -- proposals 1, 1, 0 (N5): the second is unsound and left (letter 2), which changes no copy; the third is unsound and followed
    -- (letter 0), and the copy agrees with its monitor again; so the fourth, 1, is sound (letter 1). Before N5 it was not
    ∷ are (outputs (guard sheet7) (1 ∷ 1 ∷ 0 ∷ 1 ∷ [])) (1 ∷ 0 ∷ 0 ∷ 1 ∷ [])
    ∷ is (letter sheet7 (tuple_after sheet7 (1 ∷ []) (1 ∷ [])) 1 0) 2
    ∷ are (tuple sheet7 (tuple_after sheet7 (1 ∷ 1 ∷ []) (1 ∷ 0 ∷ []))) (0 ∷ 2 ∷ [])
    ∷ is (letter sheet7 (tuple_after sheet7 (1 ∷ 1 ∷ []) (1 ∷ 0 ∷ [])) 0 0) 0
    ∷ are (tuple sheet7 (tuple_after sheet7 (1 ∷ 1 ∷ 0 ∷ []) (1 ∷ 0 ∷ 0 ∷ []))) (0 ∷ 0 ∷ [])
    ∷ is (letter sheet7 (tuple_after sheet7 (1 ∷ 1 ∷ 0 ∷ []) (1 ∷ 0 ∷ 0 ∷ [])) 1 1) 1
    ∷ are (tuple sheet7 (former_after sheet7 (1 ∷ 1 ∷ 0 ∷ []) (1 ∷ 0 ∷ 0 ∷ []))) (0 ∷ 2 ∷ [])
    ∷ is (letter sheet7 (former_after sheet7 (1 ∷ 1 ∷ 0 ∷ []) (1 ∷ 0 ∷ 0 ∷ [])) 1 1) 0
    -- the same with a limit, by which no sound proposal is left: at the fourth step off would leave one and breaks. Before N5 nothing was
    -- sound any more, and it did not. Product states (hard, limit, copy): 000, 101, 002, 102
    ∷ is (supervisor_number strict_sheet) 0
    ∷ is (guard_answer strict_sheet) 0
    ∷ are (tuple strict_sheet (tuple_after strict_sheet (1 ∷ 1 ∷ 0 ∷ []) (1 ∷ 0 ∷ 0 ∷ []))) (0 ∷ 0 ∷ 0 ∷ [])
    ∷ is (whole strict_sheet (tuple_after strict_sheet (1 ∷ 1 ∷ 0 ∷ []) (1 ∷ 0 ∷ 0 ∷ [])) 1 0) 0
    ∷ is (whole strict_sheet (former_after strict_sheet (1 ∷ 1 ∷ 0 ∷ []) (1 ∷ 0 ∷ 0 ∷ [])) 1 0) 1
    ∷ are (supervisor strict_sheet)
    (5 ∷ 0 ∷ 19 ∷ 0 ∷ 1 ∷ 1 ∷ 1 ∷ 4 ∷ 0
    ∷ 3 ∷ 0 ∷ 18 ∷ 0 ∷ 1 ∷ 1 ∷ 2
    ∷ 3 ∷ 0 ∷ 18 ∷ 0 ∷ 1 ∷ 1 ∷ 1
    ∷ 3 ∷ 0 ∷ 18 ∷ 0 ∷ 1 ∷ 3 ∷ 3
    ∷ 3 ∷ 0 ∷ 18 ∷ 0 ∷ 1 ∷ 1 ∷ 1
    ∷ [])
    -- P8: two outputs, literals 0, 9: order 1, 3, 0, 2. Head alone, so all outputs score the same, and the guard gives the highest
    ∷ are sheet8 (7 ∷ 0 ∷ 1 ∷ 0 ∷ 0 ∷ 0 ∷ 2 ∷ 0 ∷ 0 ∷ 0 ∷ 9 ∷ [])
    ∷ is (supervisor_number sheet8) 0
    ∷ is (guard_answer sheet8) 0
    ∷ ordered (literals sheet8) (1 ∷ 3 ∷ 0 ∷ 2 ∷ [])
    ∷ are (scores sheet8 0) (0 ∷ 0 ∷ 0 ∷ 0 ∷ [])
    ∷ are (outputs (guard sheet8) (0 ∷ [])) (1 ∷ [])
    -- P9: inputs 4: H 6 passes, 7 gives 6. Inputs 0: 24 passes, 25 gives 6
    ∷ is (supervisor_number (sheet9 4 6)) 0
    ∷ is (guard_answer (sheet9 4 6)) 0
    ∷ is (supervisor_number (sheet9 4 7)) 6
    ∷ is (guard_answer (sheet9 4 7)) 6
    ∷ is (supervisor_number (sheet9 0 24)) 0
    ∷ is (guard_answer (sheet9 0 24)) 0
    ∷ is (supervisor_number (sheet9 0 25)) 6
    ∷ is (guard_answer (sheet9 0 25)) 6
    -- P10: seventh monitor, also of bad weight: 5; six pass
    ∷ is (supervisor_number (sheet10 [])) 0
    ∷ is (guard_answer (sheet10 [])) 0
    ∷ is (supervisor_number (sheet10 (idle 0 ∷ []))) 5
    ∷ is (guard_answer (sheet10 (idle 0 ∷ []))) 5
    ∷ is (supervisor_number (sheet10 (idle 5 ∷ []))) 5
    ∷ is (guard_answer (sheet10 (idle 5 ∷ []))) 5
    -- a shield with one site line, off preferred: never on right after on with the site line on; sound proposals are seldom left.
    -- Product states (hard, limit, copy): 010, 000, 001, 100, 101, 012. The limit loses 100: with the site line on, a sound proposal of
    -- on would have to be left there. At 001 with the site line on, on is unsound and may be followed: it leads to 101, where the copy
    -- agrees (before N5 to 102, which was lost too)
    ∷ is (supervisor_number limit_sheet) 0
    ∷ is (guard_answer limit_sheet) 0
    ∷ are (supervisor limit_sheet)
    (5 ∷ 0 ∷ 19 ∷ 0 ∷ 1 ∷ 2 ∷ 1 ∷ 6 ∷ 0
    ∷ 5 ∷ 0 ∷ 18 ∷ 0 ∷ 1 ∷ 1 ∷ 1 ∷ 3 ∷ 3
    ∷ 5 ∷ 0 ∷ 18 ∷ 0 ∷ 1 ∷ 1 ∷ 1 ∷ 2 ∷ 2
    ∷ 5 ∷ 0 ∷ 18 ∷ 0 ∷ 1 ∷ 1 ∷ 1 ∷ 2 ∷ 3
    ∷ 5 ∷ 0 ∷ 18 ∷ 0 ∷ 0 ∷ 0 ∷ 0 ∷ 0 ∷ 0
    ∷ 5 ∷ 0 ∷ 18 ∷ 0 ∷ 1 ∷ 1 ∷ 1 ∷ 2 ∷ 1
    ∷ 5 ∷ 0 ∷ 18 ∷ 0 ∷ 1 ∷ 1 ∷ 1 ∷ 1 ∷ 1
    ∷ [])
    -- so it is realizable, though 100 breaks at site line on with on proposed: off the limit, on the hard monitor
    ∷ is (forced_number limit_sheet) 23
    ∷ are (play limit_sheet)
    (0 ∷ 0 ∷ 0 ∷ 255 ∷ 255
    ∷ 0 ∷ 0 ∷ 0 ∷ 255 ∷ 255
    ∷ 0 ∷ 0 ∷ 0 ∷ 255 ∷ 255
    ∷ 1 ∷ 0 ∷ 3 ∷ 1 ∷ 0
    ∷ 0 ∷ 0 ∷ 0 ∷ 255 ∷ 255
    ∷ 0 ∷ 0 ∷ 0 ∷ 255 ∷ 255
    ∷ [])
    ∷ are (guard limit_sheet)
    (6 ∷ 0 ∷ 16 ∷ 0 ∷ 1 ∷ 2 ∷ 1 ∷ 0 ∷ 4 ∷ 0
    ∷ 8 ∷ 0 ∷ 17 ∷ 0 ∷ 0 ∷ 1 ∷ 0 ∷ 1 ∷ 1 ∷ 2 ∷ 1 ∷ 2
    ∷ 8 ∷ 0 ∷ 17 ∷ 0 ∷ 0 ∷ 1 ∷ 0 ∷ 1 ∷ 1 ∷ 2 ∷ 1 ∷ 2
    ∷ 8 ∷ 0 ∷ 17 ∷ 0 ∷ 0 ∷ 1 ∷ 0 ∷ 1 ∷ 1 ∷ 2 ∷ 0 ∷ 3
    ∷ 8 ∷ 0 ∷ 17 ∷ 0 ∷ 0 ∷ 1 ∷ 0 ∷ 1 ∷ 0 ∷ 1 ∷ 0 ∷ 1
    ∷ [])
    -- proposals of on: the match weight follows the first (letter 1); at site line on the second is unsound and left (letter 2);
    -- the third is sound and left, for on leads to 100 (letter 3); the fourth is followed
    ∷ are (outputs (guard limit_sheet) (2 ∷ 3 ∷ 2 ∷ 2 ∷ [])) (1 ∷ 0 ∷ 0 ∷ 1 ∷ [])
    ∷ is (deviations_shown (guard limit_sheet) (2 ∷ [])) 0
    ∷ is (deviations_shown (guard limit_sheet) (2 ∷ 3 ∷ [])) 1
    ∷ is (deviations_shown (guard limit_sheet) (2 ∷ 3 ∷ 2 ∷ [])) 2
    ∷ is (deviations_shown (guard limit_sheet) (2 ∷ 3 ∷ 2 ∷ 2 ∷ [])) 2
    -- the order of letters, input + 2^inputs × output: from the start letter 1 (input alone) comes before letter 2 (output alone), so
    -- the state that on is due in is number 1, masks 2, 2, and the one that off is due in number 2, masks 1, 1. With letters
    -- output + 2^outputs × input the rows 2, 2 and 1, 1 would stand the other way round
    ∷ is (supervisor_number letter_sheet) 0
    ∷ is (guard_answer letter_sheet) 0
    ∷ are (supervisor letter_sheet)
    (5 ∷ 0 ∷ 19 ∷ 0 ∷ 0 ∷ 1 ∷ 1 ∷ 3 ∷ 0
    ∷ 3 ∷ 0 ∷ 18 ∷ 0 ∷ 1 ∷ 3 ∷ 3
    ∷ 3 ∷ 0 ∷ 18 ∷ 0 ∷ 1 ∷ 2 ∷ 2
    ∷ 3 ∷ 0 ∷ 18 ∷ 0 ∷ 1 ∷ 1 ∷ 1
    ∷ [])
    ∷ []

-- each row's test succeeds, by computation
pub every_row_holds : AllHold rows
unfolding sheets supervisors guards forecasts plays runs boards
every_row_holds = all_hold rows refl
