-- Document 01, "What form to use where": number and values for each case of an answer (the packing of sheets is `Words`). The layout is this
-- project's own, one 64-bit number for C, with what a caller takes from it (include/surface_table.h): bits 0 to 7 are the refusal's number,
-- or 0; where refused, bits 8 to 63 are the place; else bits 8 to 39 are a first and bits 40 to 63 a second value. Assumes nothing.
use Rattle.std.specs.Prelude.{ℕ, ◌+◌, ◌-◌, ◌*◌, ◌/◌, ◌%◌, ◌^◌, cond, List, [], ◌∷◌, eqb, Option, Result, Ok, Err, Some, None}
use Rattle.model.specs.Refusals.{number_of, place_of}
use Rattle.model.specs.Game.{byte_of}
use Rattle.model.specs.declared.refusal.Refusal.{Refusal}
use Rattle.model.specs.declared.refusal.Refusal.TheVariants.{VertexCount, EndCount, BufferLength, EndRange, MarkRange, SyndromeByte, LossByte, HandedByte, NoCorrection, TorusSide, TextLength, MalformedLine, TextBuffer, RoundCount, OpenByte, LitOpen, PlanarSide, PastLast, GameEdges, PositionByte, MoveCount, TrapEdges}
use Rattle.model.specs.declared.answers.Key.{Key}
use Rattle.model.specs.declared.answers.RoundsKey.{RoundsKey}
use Rattle.model.specs.declared.answers.Counts.{Counts}
use Rattle.model.specs.declared.answers.WordCounts.{WordCounts}
use Rattle.model.specs.declared.answers.Verdict.{Verdict}
use Rattle.model.specs.declared.answers.Verdict.TheVariants as verdict
use Rattle.model.specs.declared.answers.Player.{Player}
use Rattle.model.specs.declared.answers.Player.TheVariants.{Winder, Blocker}
use Rattle.model.specs.declared.answers.Forced.{Forced}
use Rattle.model.specs.declared.answers.Forced.TheVariants.{Taking, Waiting}
use Rattle.model.specs.Answers.{Built, Decoded, Distance, Game, Lit, Packed, Reading, RoundsDecoded, Trap, Written, counts_with, key_with, rounds_with, word_counts_with}

-- Packing

-- a first value of 32 bits and a second of 24; no answer has a larger one (table, `Returned`)
abbrev pub packed : ℕ → ℕ → ℕ
packed first second = 2 ^ 8 * (first % 2 ^ 32) + 2 ^ 40 * (second % 2 ^ 24)

-- a place of 56 bits; a side is lent as 32 bits, and every other place is smaller
abbrev pub packed_refusal : Refusal → ℕ
packed_refusal n = number_of n + 2 ^ 8 * (place_of n % 2 ^ 56)

-- an answer: its own number, or that of the refusal
abbrev pub packed_answer : {A : Type 0} → (A → ℕ) → Result A Refusal → ℕ
packed_answer number (Ok v) = number v
packed_answer number (Err n) = packed_refusal n

-- growths, correction edges
abbrev pub key_number : Key → ℕ
key_number k = packed k.growths k.edges

abbrev pub packed_decoded : Decoded → ℕ
packed_decoded = packed_answer key_number

-- rounds, correction edges
abbrev pub rounds_number : RoundsKey → ℕ
rounds_number k = packed k.rounds k.edges

abbrev pub packed_rounds : RoundsDecoded → ℕ
packed_rounds = packed_answer rounds_number

-- 1 off with the vertex, 2 same, 3 wound with the value
abbrev pub packed_verdict : Verdict → ℕ
packed_verdict (verdict.Off v) = packed 1 v.0
packed_verdict verdict.Same = packed 2 0
packed_verdict (verdict.Wound x) = packed 3 x
packed_verdict (verdict.Refused n) = packed_refusal n

-- the fewest edges and 1, or 0 and 0 where there is none
abbrev pub fewest_number : Option ℕ → ℕ
fewest_number (Some d) = packed d 1
fewest_number None = packed 0 0

abbrev pub packed_distance : Distance → ℕ
packed_distance = packed_answer fewest_number

abbrev pub packed_trap : Trap → ℕ
packed_trap = packed_answer fewest_number

-- a count, 0: vertices, bytes, the total of lit vertices
abbrev pub count_number : ℕ → ℕ
count_number n = packed n 0

abbrev pub packed_built : Built → ℕ
packed_built = packed_answer count_number

abbrev pub packed_written : Written → ℕ
packed_written = packed_answer count_number

abbrev pub packed_lit : Lit → ℕ
packed_lit = packed_answer count_number

-- vertices, edges
abbrev pub counts_number : Counts → ℕ
counts_number c = packed c.vertices c.edges

abbrev pub packed_reading : Reading → ℕ
packed_reading = packed_answer counts_number

-- words of the syndrome, words of the losses
abbrev pub words_number : WordCounts → ℕ
words_number c = packed c.syndrome c.loss

abbrev pub packed_words : Packed → ℕ
packed_words = packed_answer words_number

-- the player, as in a position, and one more than the edge, or 0 where none is shown
abbrev pub packed_forced : Forced → ℕ
packed_forced (Taking P e) = packed (byte_of P) (e.0 + 1)
packed_forced (Waiting P) = packed (byte_of P) 0

abbrev pub packed_game : Game → ℕ
packed_game = packed_answer packed_forced

-- Taking apart

-- bits 0 to 7, bits 8 to 63, bits 8 to 39 and bits 40 to 63 of a number below 2 ^ 64
abbrev pub refusal_number : ℕ → ℕ
refusal_number r = r % 2 ^ 8

abbrev pub place_in : ℕ → ℕ
place_in r = r / 2 ^ 8

abbrev pub first_value : ℕ → ℕ
first_value r = r / 2 ^ 8 % 2 ^ 32

abbrev pub second_value : ℕ → ℕ
second_value r = r / 2 ^ 40

-- the refusals at a place, in the order of their numbers
abbrev pub refusals_at : ℕ → List Refusal
refusals_at at =
    VertexCount
    ∷ EndCount
    ∷ BufferLength
    ∷ EndRange (record { 0 = at })
    ∷ MarkRange (record { 0 = at })
    ∷ SyndromeByte (record { 0 = at })
    ∷ LossByte (record { 0 = at })
    ∷ HandedByte (record { 0 = at })
    ∷ NoCorrection (record { 0 = at })
    ∷ TorusSide at
    ∷ TextLength
    ∷ MalformedLine at
    ∷ TextBuffer
    ∷ RoundCount
    ∷ OpenByte (record { 0 = at })
    ∷ LitOpen (record { 0 = at })
    ∷ PlanarSide at
    ∷ PastLast (record { 0 = at })
    ∷ GameEdges
    ∷ PositionByte (record { 0 = at })
    ∷ MoveCount
    ∷ TrapEdges
    ∷ []

-- the first refusal of a list that has the number n; where none has it, number 14
abbrev pub with_number : ℕ → List Refusal → Refusal
with_number n [] = TextBuffer
with_number n (r ∷ rs) = cond (eqb (number_of r) n) r (with_number n rs)

-- the refusal with a number and a place; no call returns a number that no refusal has, and one would stand for number 14
abbrev pub unpacked_refusal : ℕ → ℕ → Refusal
unpacked_refusal n at = with_number n (refusals_at at)

-- the refusal where there is a number, else what the two values stand for
unfoldable pub unpacked : {A : Type 0} → (Refusal → A) → (ℕ → ℕ → A) → ℕ → A
unpacked refused values r =
    cond (eqb (refusal_number r) 0)
    (values (first_value r) (second_value r))
    (refused (unpacked_refusal (refusal_number r) (place_in r)))

unfoldable pub unpacked_decoded : ℕ → Decoded
unpacked_decoded = unpacked Err key_with

unfoldable pub unpacked_rounds : ℕ → RoundsDecoded
unpacked_rounds = unpacked Err rounds_with

-- 1 is off, 2 same, and the only other first value is 3
abbrev pub verdict_with : ℕ → ℕ → Verdict
verdict_with first second =
    cond (eqb first 1) (verdict.Off (record { 0 = second })) (cond (eqb first 2) verdict.Same (verdict.Wound second))

unfoldable pub unpacked_verdict : ℕ → Verdict
unpacked_verdict = unpacked verdict.Refused verdict_with

-- a second value of 0 says that there is none
abbrev pub distance_with : ℕ → ℕ → Distance
distance_with first second = cond (eqb second 0) (Ok None) (Ok (Some first))

unfoldable pub unpacked_distance : ℕ → Distance
unpacked_distance = unpacked Err distance_with

unfoldable pub unpacked_built : ℕ → Built
unpacked_built = unpacked Err (λ vertices rest. Ok vertices)

unfoldable pub unpacked_reading : ℕ → Reading
unpacked_reading = unpacked Err counts_with

unfoldable pub unpacked_written : ℕ → Written
unpacked_written = unpacked Err (λ bytes rest. Ok bytes)

unfoldable pub unpacked_words : ℕ → Packed
unpacked_words = unpacked Err word_counts_with

unfoldable pub unpacked_lit : ℕ → Lit
unpacked_lit = unpacked Err (λ total rest. Ok total)

-- a first value of 1 is Winder, and the only other is 2; a second value of 0 shows no edge
abbrev pub player_with : ℕ → Player
player_with first = cond (eqb first 1) Winder Blocker

abbrev pub game_with : ℕ → ℕ → Game
game_with first second =
    Ok (cond (eqb second 0) (Waiting (player_with first)) (Taking (player_with first) (record { 0 = second - 1 })))

unfoldable pub unpacked_game : ℕ → Game
unpacked_game = unpacked Err game_with

-- as with the distance
abbrev pub trap_with : ℕ → ℕ → Trap
trap_with first second = cond (eqb second 0) (Ok None) (Ok (Some first))

unfoldable pub unpacked_trap : ℕ → Trap
unpacked_trap = unpacked Err trap_with
