-- A caller who takes a returned number apart has the call's answer: nothing of any answer is cut off. Assumes nothing.
use Prim.Native.Nat.{ℕ, ◌+◌, ◌-◌, ◌*◌, ◌^◌, ◌≤◌, ◌<◌}
use mathlib.Core.Path.{◌≡◌, refl, ◌∙◌}
use mathlib.Core.Bool.{Bool, true, false, cond, ◌&&◌}
use mathlib.Core.List.{List, [], ◌∷◌}
use mathlib.Core.Option.{Option, none, some}
use native.Mathlib.Omega.{arith}
use borrow.Author.Tests.{leb-true, ne_eqb}
use lib.ListN.{length}
use lib.Dec.{eqb, leb}
use Rattle.model.specs.declared.refusal.Refusal.{Refusal}
use Rattle.model.specs.declared.refusal.Refusal.TheVariants.{TorusSide, PlanarSide}
use Rattle.model.specs.declared.answers.Verdict.TheVariants as verdict
use Rattle.model.specs.declared.numbers.Edge.{Edge}
use Rattle.model.specs.declared.answers.Player.{Player}
use Rattle.model.specs.declared.answers.Player.TheVariants.{Winder, Blocker}
use Rattle.model.specs.declared.answers.Forced.{Forced}
use Rattle.model.specs.declared.answers.Forced.TheVariants.{Taking, Waiting}
use Rattle.model.specs.Sums.{Set, ones}
use Rattle.model.specs.Board.{Board, Sheet, Valid, edges}
use Rattle.model.specs.Winding.{crossings, together, size}
use Rattle.model.specs.Growth.{weighted}
use Rattle.model.specs.Rounds.{all_odd}
use Rattle.model.specs.Decoding.{growths, corrected, rounds, round_corrected}
use Rattle.model.specs.Verdict.{differs, judged_at, judged}
use Rattle.model.specs.Distance.{fewest}
use Rattle.model.specs.Traps.{fewest_trap}
use Rattle.model.specs.TrapOutcomes.{trap_of, trap_answer}
use Rattle.model.specs.Game.{byte_of, forced}
use Rattle.model.specs.Torus.{least_side, largest_side}
use Rattle.model.specs.Planar.{least_planar, largest_planar, planar_vertices, planar_edges}
use Rattle.model.specs.Stack.{stack_vertices}
use Rattle.model.specs.Refusals.{place_of, Test, sized, side_rule, planar_side_rule, length_rule, odd_part_test, decode_refusal, verdict_refusal, distance_refusal, trap_refusal, torus_refusal, planar_refusal, stack_refusal, faces_refusal, game_limit, game_refusal}
use Rattle.model.specs.Outcomes.{answer, key_or_none, decode_answer, judged_or_none, verdict_answer, distance_of, distance_answer, torus_answer, planar_answer}
use Rattle.model.specs.RoundsOutcomes.{rounds_or_none, rounds_answer}
use Rattle.model.specs.StackOutcomes.{stack_answer}
use Rattle.model.specs.FacesOutcomes.{torus_sheet, faces_answer}
use Rattle.model.specs.GameOutcomes.{game_answer}
use Rattle.model.specs.Text.{Read, complete, refused, text_of, read_text}
use Rattle.model.specs.TextOutcomes.{Buffers, text_limit, read_refusal, read_outcome, counts, write_refusal, write_answer}
use Rattle.model.specs.Words.{in_words, word_count, lit_total, unpacked_sheet}
use Rattle.model.specs.WordRefusals.{pack_refusal, unpack_refusal, lit_refusal, decode_packed_refusal}
use Rattle.model.specs.WordOutcomes.{pack_answer, unpack_answer, lit_answer, list_answer, decode_packed_answer}
use Rattle.model.specs.Packing.{packed, packed_decoded, packed_rounds, packed_verdict, packed_distance, packed_built, packed_reading, packed_written, packed_words, packed_lit, packed_game, unpacked_decoded, unpacked_rounds, verdict_with, unpacked_verdict, distance_with, unpacked_distance, unpacked_built, unpacked_reading, unpacked_written, unpacked_words, unpacked_lit, player_with, game_with, unpacked_game, packed_trap, trap_with, unpacked_trap}
use Rattle.model.proofs.SumLaws.{count_bound}
use Rattle.model.proofs.Packing.{unpacked_values, unpacked_refusal_lem}
use Rattle.model.proofs.Places.{PlaceBelow, answer_holds}
use Rattle.theory.proofs.AnswerBounds.{count_limit, size_bound, differs_bound, crossings_bound, fewest_bound, trap_bound}
use Rattle.theory.proofs.ReadBounds.{LineBelow, line_below}
use Rattle.theory.proofs.RoundTrip.{written_read}
use Rattle.model.proofs.Xor.{and_right}
use Rattle.model.proofs.RuleLists.{unless_passes}
use Rattle.board.proofs.Failures.{each_passes}
use Rattle.board.proofs.Calls.{decode_passes, verdict_passes, distance_passes}
use Rattle.text.proofs.TextCalls.{read_within, write_passed}
use Rattle.torus.proofs.Numbering.{square_limit}
use Rattle.planar.proofs.Numbering.{vertices_limit}
use Rattle.stack.proofs.StackPasses.{stack_passes}
use Rattle.torus.proofs.TorusValid.{torus_valid}
use Rattle.faces.proofs.FaceTests.{faces_passes}
use Rattle.game.proofs.GameTests.{game_passes}
use Rattle.trap.proofs.TrapTests.{trap_passes}
use Rattle.game.proofs.SoundPlay.{edge_below}
use Rattle.packed.proofs.WordTests.{pack_passes, unpack_passes, lit_passes}
use Rattle.packed.proofs.Screening.{packed_passes}
use Rattle.table.proofs.CallPlaces.{roomy, decode_small, verdict_small, odd_small, distance_small, game_small, trap_small, torus_side, planar_side, stack_side, faces_side, read_small, write_small, pack_small, unpack_small, lit_small, decode_packed_small}
use Rattle.model.specs.Answers.{counts_with, key_with, rounds_with, word_counts_with}
use Rattle.std.specs.Prelude.{Ok, Err}

-- An answer comes back where the refusals of its test and what follows where it passes do.
back : {A : Type 0} (pack : A → ℕ) (unpack : ℕ → A) {refused : Refusal → A} {else : A} (t : Test)
    → ((n : Refusal) → place_of n < 2 ^ 56 → unpack (pack (refused n)) ≡ refused n) → PlaceBelow (2 ^ 56) t
    → (t ≡ none → unpack (pack else) ≡ else)
    → unpack (pack (answer t refused else)) ≡ answer t refused else
back pack unpack {refused} {else} t fails small passes =
    answer_holds (λ a. unpack (pack a) ≡ a) t refused else (λ n p. fails n (small.below n p)) passes

-- Decoding: growths and correction edges

decode_refusal_lem : (n : Refusal) → place_of n < 2 ^ 56 → unpacked_decoded (packed_decoded (Err n)) ≡ Err n
unfolding unpacked_decoded
decode_refusal_lem n h = unpacked_refusal_lem Err key_with n h

decode_key : (X : Sheet) → Valid X.board → unpacked_decoded (packed_decoded (key_with (growths X) (size X.board (corrected X))))
    ≡ key_with (growths X) (size X.board (corrected X))
unfolding unpacked_decoded
decode_key X v =
    unpacked_values Err key_with (growths X) (size X.board (corrected X))
    (omega (arith, count_limit weighted X, v.inside.edges_limited))
    (omega (arith, size_bound X.board (corrected X), v.inside.edges_limited))

key_returned : (X : Sheet) → Valid X.board → unpacked_decoded (packed_decoded (key_or_none X)) ≡ key_or_none X
unfolding key_or_none
key_returned X v =
    back packed_decoded unpacked_decoded (odd_part_test X) decode_refusal_lem (roomy (odd_small X v.inside.vertices_limited)) (λ q. decode_key X v)

pub decode_returned : (X : Sheet) (support correction : List ℕ) →
    unpacked_decoded (packed_decoded (decode_answer X support correction)) ≡ decode_answer X support correction
unfolding decode_answer
decode_returned X support correction =
    back packed_decoded unpacked_decoded (decode_refusal X support correction) decode_refusal_lem (roomy (decode_small X support correction))
    (λ p. key_returned X (decode_passes X support correction p).sheet.board)

-- of a packed sheet the same
pub decode_packed_returned : (B : Board) (syndrome loss support correction : List ℕ)
    → unpacked_decoded (packed_decoded (decode_packed_answer B syndrome loss support correction))
    ≡ decode_packed_answer B syndrome loss support correction
unfolding decode_packed_answer
decode_packed_returned B syndrome loss support correction =
    let X = unpacked_sheet B syndrome loss in
    back packed_decoded unpacked_decoded (decode_packed_refusal B syndrome loss support correction) decode_refusal_lem
    (roomy (decode_packed_small B syndrome loss support correction))
    (λ p. key_returned X (decode_passes X support correction (packed_passes B syndrome loss support correction p)).sheet.board)

-- Decoding in rounds: rounds in the place of growths

rounds_refusal : (n : Refusal) → place_of n < 2 ^ 56 → unpacked_rounds (packed_rounds (Err n)) ≡ Err n
unfolding unpacked_rounds
rounds_refusal n h = unpacked_refusal_lem Err rounds_with n h

rounds_key : (X : Sheet) → Valid X.board → unpacked_rounds (packed_rounds (rounds_with (rounds X) (size X.board (round_corrected X))))
    ≡ rounds_with (rounds X) (size X.board (round_corrected X))
unfolding unpacked_rounds
rounds_key X v =
    unpacked_values Err rounds_with (rounds X) (size X.board (round_corrected X))
    (omega (arith, count_limit all_odd X, v.inside.edges_limited))
    (omega (arith, size_bound X.board (round_corrected X), v.inside.edges_limited))

pub rounds_returned : (X : Sheet) (support correction : List ℕ) →
    unpacked_rounds (packed_rounds (rounds_answer X support correction)) ≡ rounds_answer X support correction
unfolding rounds_answer rounds_or_none
rounds_returned X support correction =
    back packed_rounds unpacked_rounds (decode_refusal X support correction) rounds_refusal (roomy (decode_small X support correction))
    (λ p.
    let v = (decode_passes X support correction p).sheet.board in
    back packed_rounds unpacked_rounds (odd_part_test X) rounds_refusal (roomy (odd_small X v.inside.vertices_limited)) (λ q. rounds_key X v))

-- The verdict: off with a vertex, same, or wound with 1 to 3

verdict_refusal_lem : (n : Refusal) → place_of n < 2 ^ 56 → unpacked_verdict (packed_verdict (verdict.Refused n)) ≡ verdict.Refused n
unfolding unpacked_verdict
verdict_refusal_lem n h = unpacked_refusal_lem verdict.Refused verdict_with n h

verdict_judged : (X : Sheet) (H : Set) → Valid X.board →
    let r = judged X.board (ones X.syndrome) (corrected X) H in
    unpacked_verdict (packed_verdict r) ≡ r
unfolding judged unpacked_verdict
verdict_judged X H v = go (differs B (ones X.syndrome) H) refl
  where
    B : Board
    B = X.board

    x : ℕ
    x = crossings B (together H (corrected X))

    marked : (t : Bool) → unpacked_verdict (packed_verdict (cond t verdict.Same (verdict.Wound x))) ≡ cond t verdict.Same (verdict.Wound x)
    marked true = unpacked_values verdict.Refused verdict_with 2 0 (omega arith) (omega arith)
    marked false =
        unpacked_values verdict.Refused verdict_with 3 x (omega arith) (omega (arith, crossings_bound B (together H (corrected X))))

    go : (o : Option ℕ) → differs B (ones X.syndrome) H ≡ o → unpacked_verdict (packed_verdict (judged_at o x)) ≡ judged_at o x
    go none p = marked (eqb x 0)
    go (some u) p =
        unpacked_values verdict.Refused verdict_with 1 u (omega arith)
        (omega (arith, differs_bound B (ones X.syndrome) H u p, v.inside.vertices_limited))

judged_returned : (X : Sheet) (handed : List ℕ) → Valid X.board → unpacked_verdict (packed_verdict (judged_or_none X handed)) ≡ judged_or_none X handed
unfolding judged_or_none
judged_returned X handed v =
    back packed_verdict unpacked_verdict (odd_part_test X) verdict_refusal_lem (roomy (odd_small X v.inside.vertices_limited))
    (λ q. verdict_judged X (ones handed) v)

pub verdict_returned : (X : Sheet) (handed : List ℕ) → unpacked_verdict (packed_verdict (verdict_answer X handed)) ≡ verdict_answer X handed
unfolding verdict_answer
verdict_returned X handed =
    back packed_verdict unpacked_verdict (verdict_refusal X handed) verdict_refusal_lem (roomy (verdict_small X handed))
    (λ p. judged_returned X handed (verdict_passes X handed p).sheet.board)

-- with faces the same, on a torus
pub faces_returned : (side : ℕ) (syndrome loss handed faces : List ℕ) → side < 2 ^ 32
    → unpacked_verdict (packed_verdict (faces_answer side syndrome loss handed faces)) ≡ faces_answer side syndrome loss handed faces
unfolding faces_answer
faces_returned side syndrome loss handed faces h =
    back packed_verdict unpacked_verdict (faces_refusal side syndrome loss handed faces) verdict_refusal_lem
    (faces_side side syndrome loss handed faces h)
    (λ p. judged_returned (torus_sheet side syndrome loss) handed (torus_valid side (faces_passes side syndrome loss handed faces p).lent.side))

-- The distance: the fewest edges, or none

distance_refusal_lem : (n : Refusal) → place_of n < 2 ^ 56 → unpacked_distance (packed_distance (Err n)) ≡ Err n
unfolding unpacked_distance
distance_refusal_lem n h = unpacked_refusal_lem Err distance_with n h

distance_fewest : (B : Board) → Valid B → unpacked_distance (packed_distance (distance_of (fewest B))) ≡ distance_of (fewest B)
unfolding unpacked_distance
distance_fewest B v = go (fewest B) refl
  where
    go : (o : Option ℕ) → fewest B ≡ o → unpacked_distance (packed_distance (distance_of o)) ≡ distance_of o
    go none p = unpacked_values Err distance_with 0 0 (omega arith) (omega arith)
    go (some d) p =
        unpacked_values Err distance_with d 1 (omega (arith, fewest_bound B d p, v.inside.edges_limited)) (omega arith)

pub distance_returned : (B : Board) (shown : List ℕ) → unpacked_distance (packed_distance (distance_answer B shown)) ≡ distance_answer B shown
unfolding distance_answer
distance_returned B shown =
    back packed_distance unpacked_distance (distance_refusal B shown) distance_refusal_lem (roomy (distance_small B shown))
    (λ p. distance_fewest B (distance_passes B shown p).board)

-- The game: a player, and an edge or none

game_refusal_lem : (n : Refusal) → place_of n < 2 ^ 56 → unpacked_game (packed_game (Err n)) ≡ Err n
unfolding unpacked_game
game_refusal_lem n h = unpacked_refusal_lem Err game_with n h

-- a player comes back from the byte, and both values as they are
player_back : (P : Player) → player_with (byte_of P) ≡ P
player_back Winder = refl
player_back Blocker = refl

game_values : (P : Player) (second : ℕ) → second < 2 ^ 24 → unpacked_game (packed (byte_of P) second) ≡ game_with (byte_of P) second
unfolding unpacked_game
game_values Winder second h = unpacked_values Err game_with 1 second (omega arith) h
game_values Blocker second h = unpacked_values Err game_with 2 second (omega arith) h

-- an edge is one less than its value, which is never 0
game_forced : (f : Forced) → ((P : Player) (e : Edge) → f ≡ Taking P e → e.0 < game_limit)
    → unpacked_game (packed_game (Ok f)) ≡ Ok f
game_forced (Taking P e) small =
    let below = small P e refl in
    let after : e.0 + 1 - 1 ≡ e.0 = omega arith in
    game_values P (e.0 + 1) (omega arith)
    ∙ rw (ne_eqb (e.0 + 1) 0 (λ q. omega arith), player_back P, after)
game_forced (Waiting P) small = game_values P 0 (omega arith) ∙ rw (player_back P)

pub game_returned : (B : Board) (position : List ℕ) → unpacked_game (packed_game (game_answer B position)) ≡ game_answer B position
unfolding game_answer
game_returned B position =
    back packed_game unpacked_game (game_refusal B position) game_refusal_lem (roomy (game_small B position))
    (λ p.
    let play = game_passes B position p in
    game_forced (forced B position) (λ P e q. omega (arith, edge_below B position play P e q, play.few)))

-- A trap: its edges, or none

trap_refusal_lem : (n : Refusal) → place_of n < 2 ^ 56 → unpacked_trap (packed_trap (Err n)) ≡ Err n
unfolding unpacked_trap
trap_refusal_lem n h = unpacked_refusal_lem Err trap_with n h

trap_fewest : (B : Board) (loss : List ℕ) → Valid B → unpacked_trap (packed_trap (trap_of (fewest_trap B loss))) ≡ trap_of (fewest_trap B loss)
unfolding unpacked_trap
trap_fewest B loss v = go (fewest_trap B loss) refl
  where
    go : (o : Option ℕ) → fewest_trap B loss ≡ o → unpacked_trap (packed_trap (trap_of o)) ≡ trap_of o
    go none p = unpacked_values Err trap_with 0 0 (omega arith) (omega arith)
    go (some k) p =
        unpacked_values Err trap_with k 1 (omega (arith, trap_bound B loss k p, v.inside.edges_limited)) (omega arith)

pub trap_returned : (B : Board) (loss set : List ℕ) → unpacked_trap (packed_trap (trap_answer B loss set)) ≡ trap_answer B loss set
unfolding trap_answer
trap_returned B loss set =
    back packed_trap unpacked_trap (trap_refusal B loss set) trap_refusal_lem (roomy (trap_small B loss set))
    (λ p. trap_fewest B loss (trap_passes B loss set p).board)

-- The torus: L² vertices. A side is lent as 32 bits, to all builders.

built_refusal : (n : Refusal) → place_of n < 2 ^ 56 → unpacked_built (packed_built (Err n)) ≡ Err n
unfolding unpacked_built
built_refusal n h = unpacked_refusal_lem Err (λ vertices rest. Ok vertices) n h

built_vertices : (n : ℕ) → n < 2 ^ 32 → unpacked_built (packed_built (Ok n)) ≡ Ok n
unfolding unpacked_built
built_vertices n h = unpacked_values Err (λ vertices rest. Ok vertices) n 0 h (omega arith)

-- the side passes its test
torus_passes : (side : ℕ) (ends marks : List ℕ) → torus_refusal side ends marks ≡ none → side ≤ largest_side
unfolding torus_refusal
torus_passes side ends marks p =
    let fits = sized ends (4 * (side * side)) && sized marks (2 * (side * side)) in
    let e = each_passes (side_rule side ∷ length_rule fits ∷ []) p in
    leb-true side largest_side (and_right (leb least_side side) (leb side largest_side) (unless_passes (leb least_side side && leb side largest_side) (TorusSide side) e.0))

pub torus_returned : (side : ℕ) (ends marks : List ℕ) → side < 2 ^ 32
    → unpacked_built (packed_built (torus_answer side ends marks)) ≡ torus_answer side ends marks
unfolding torus_answer
torus_returned side ends marks h =
    back packed_built unpacked_built (torus_refusal side ends marks) built_refusal (torus_side side ends marks h)
    (λ p.
    let few = torus_passes side ends marks p in
    built_vertices (side * side) (omega (arith, square_limit side few)))

-- The planar board: L(L + 1) vertices

planar_passes : (side : ℕ) (ends marks opened : List ℕ) → planar_refusal side ends marks opened ≡ none → side ≤ largest_planar
unfolding planar_refusal
planar_passes side ends marks opened p =
    let fits = sized ends (2 * planar_edges side) && sized marks (planar_edges side) && sized opened (planar_vertices side) in
    let e = each_passes (planar_side_rule side ∷ length_rule fits ∷ []) p in
    let in_range = unless_passes (leb least_planar side && leb side largest_planar) (PlanarSide side) e.0 in
    leb-true side largest_planar (and_right (leb least_planar side) (leb side largest_planar) in_range)

pub planar_returned : (side : ℕ) (ends marks opened : List ℕ) → side < 2 ^ 32
    → unpacked_built (packed_built (planar_answer side ends marks opened)) ≡ planar_answer side ends marks opened
unfolding planar_answer
planar_returned side ends marks opened h =
    back packed_built unpacked_built (planar_refusal side ends marks opened) built_refusal (planar_side side ends marks opened h)
    (λ p. built_vertices (planar_vertices side) (omega (arith, vertices_limit side (planar_passes side ends marks opened p))))

-- The stack: R × L² vertices

pub stack_returned : (side rounds : ℕ) (readings ends marks syndrome : List ℕ) → side < 2 ^ 32
    → unpacked_built (packed_built (stack_answer side rounds readings ends marks syndrome)) ≡ stack_answer side rounds readings ends marks syndrome
unfolding stack_answer
stack_returned side rounds readings ends marks syndrome h =
    back packed_built unpacked_built (stack_refusal side rounds readings ends marks syndrome) built_refusal
    (stack_side side rounds readings ends marks syndrome h)
    (λ p.
    let few = (stack_passes side rounds readings ends marks syndrome p).within.vertices_limited in
    built_vertices (stack_vertices side rounds) (omega arith))

-- Reading: both counts

read_refusal_lem : (n : Refusal) → place_of n < 2 ^ 56 → unpacked_reading (packed_reading (Err n)) ≡ Err n
unfolding unpacked_reading
read_refusal_lem n h = unpacked_refusal_lem Err counts_with n h

read_counts : (text : List ℕ) (o : Read) → read_text text ≡ o → length text ≤ text_limit → LineBelow (length text + 2) o
    → unpacked_reading (packed_reading (counts o)) ≡ counts o
unfolding unpacked_reading
read_counts text (complete X) p h w =
    let v = (written_read text X p).valid.board in
    unpacked_values Err counts_with X.board.vertices (edges X.board)
    (omega (arith, v.inside.vertices_limited))
    (omega (arith, v.inside.edges_limited))
read_counts text (refused n) p h w = read_refusal_lem n (omega arith)

pub read_returned : (text : List ℕ) (old : Buffers) →
    let r = counts (read_outcome text old) in
    unpacked_reading (packed_reading r) ≡ r
unfolding read_outcome
read_returned text old =
    answer_holds (λ o. unpacked_reading (packed_reading (counts o)) ≡ counts o) (read_refusal text old) refused (read_text text)
    (λ n p. read_refusal_lem n ((roomy (read_small text old)).below n p))
    (λ p. read_counts text (read_text text) refl (read_within text old p) (line_below text))

-- Writing: the byte count

write_refusal_lem : (n : Refusal) → place_of n < 2 ^ 56 → unpacked_written (packed_written (Err n)) ≡ Err n
unfolding unpacked_written
write_refusal_lem n h = unpacked_refusal_lem Err (λ bytes rest. Ok bytes) n h

write_bytes : (n : ℕ) → n < 2 ^ 32 → unpacked_written (packed_written (Ok n)) ≡ Ok n
unfolding unpacked_written
write_bytes n h = unpacked_values Err (λ bytes rest. Ok bytes) n 0 h (omega arith)

pub write_returned : (X : Sheet) (buffer : List ℕ) → unpacked_written (packed_written (write_answer X buffer)) ≡ write_answer X buffer
unfolding write_answer
write_returned X buffer =
    back packed_written unpacked_written (write_refusal X buffer) write_refusal_lem (roomy (write_small X buffer))
    (λ p. write_bytes (length (text_of X)) (omega (arith, (write_passed X buffer p).within)))

-- Packing: both counts of words

pack_refused : (n : Refusal) → place_of n < 2 ^ 56 → unpacked_words (packed_words (Err n)) ≡ Err n
unfolding unpacked_words
pack_refused n h = unpacked_refusal_lem Err word_counts_with n h

pack_words : (i j : ℕ) → i < 2 ^ 32 → j < 2 ^ 24 → unpacked_words (packed_words (word_counts_with i j)) ≡ word_counts_with i j
unfolding unpacked_words
pack_words i j h k = unpacked_values Err word_counts_with i j h k

pub pack_returned : (n m : ℕ) (syndrome loss syndromeWords lossWords : List ℕ) →
    let r = pack_answer n m syndrome loss syndromeWords lossWords in
    unpacked_words (packed_words r) ≡ r
unfolding pack_answer
pack_returned n m syndrome loss syndromeWords lossWords =
    back packed_words unpacked_words (pack_refusal n m syndrome loss syndromeWords lossWords) pack_refused
    (roomy (pack_small n m syndrome loss syndromeWords lossWords))
    (λ p.
    let k = (pack_passes n m syndrome loss syndromeWords lossWords p).items in
    pack_words (word_count n) (word_count m) (omega arith) (omega arith))

-- Unpacking: both counts of items

unpack_counts : (n m : ℕ) → n < 2 ^ 32 → m < 2 ^ 24 → unpacked_reading (packed_reading (counts_with n m)) ≡ counts_with n m
unfolding unpacked_reading
unpack_counts n m h k = unpacked_values Err counts_with n m h k

pub unpack_returned : (n m : ℕ) (syndromeWords lossWords syndrome loss : List ℕ) →
    let r = unpack_answer n m syndromeWords lossWords syndrome loss in
    unpacked_reading (packed_reading r) ≡ r
unfolding unpack_answer
unpack_returned n m syndromeWords lossWords syndrome loss =
    back packed_reading unpacked_reading (unpack_refusal n m syndromeWords lossWords syndrome loss) read_refusal_lem
    (roomy (unpack_small n m syndromeWords lossWords syndrome loss))
    (λ p.
    let k = (unpack_passes n m syndrome loss syndromeWords lossWords p).items in
    unpack_counts n m (omega arith) (omega arith))

-- The lit total, of the list too

lit_refused : (n : Refusal) → place_of n < 2 ^ 56 → unpacked_lit (packed_lit (Err n)) ≡ Err n
unfolding unpacked_lit
lit_refused n h = unpacked_refusal_lem Err (λ total rest. Ok total) n h

lit_value : (t : ℕ) → t < 2 ^ 32 → unpacked_lit (packed_lit (Ok t)) ≡ Ok t
unfolding unpacked_lit
lit_value t h = unpacked_values Err (λ total rest. Ok total) t 0 h (omega arith)

-- no more vertices are lit than there are bits
total_bound : (words : List ℕ) → lit_total words ≤ 64 * length words
unfolding lit_total
total_bound words = count_bound (64 * length words) (in_words words)

total_returned : (n : ℕ) (words : List ℕ) (others : Bool) →
    let r = answer (lit_refusal n words others) Err (Ok (lit_total words)) in
    unpacked_lit (packed_lit r) ≡ r
total_returned n words others =
    back packed_lit unpacked_lit (lit_refusal n words others) lit_refused (roomy (lit_small n words others))
    (λ p.
    let k = lit_passes n words others p in
    lit_value (lit_total words) (omega (arith, total_bound words, k.within.count)))

pub lit_returned : (n : ℕ) (words : List ℕ) → unpacked_lit (packed_lit (lit_answer n words)) ≡ lit_answer n words
unfolding lit_answer
lit_returned n words = total_returned n words true

pub list_returned : (n : ℕ) (words list : List ℕ) → unpacked_lit (packed_lit (list_answer n words list)) ≡ list_answer n words list
unfolding list_answer
list_returned n words list = total_returned n words (sized list n)
