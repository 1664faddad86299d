-- Document 01, "Numbers and places", of each call: of all refusals that apply it gives the one with the smallest number, and of those with
-- that number the one with the smallest place. The numbers of the rules rise in all calls but seven: the builders and the verdict with
-- faces test the side before the lengths, the stack's builder the rounds too, the writer tests the open bytes before the text, unpacking
-- has two kinds of words under one number, and decoding of a packed sheet tests both before the open bytes; of these it is the first rule
-- of the list that is broken. Outside the lists stand 10, which decoding, in rounds and of a packed sheet too, and the verdict, with faces
-- too, give only where nothing of their lists applies, and 13, which the reader gives alike. Assumes nothing.
use Prim.Native.Nat.{ℕ, ◌*◌, ◌≤◌}
use mathlib.Core.Path.{◌≡◌, refl, ap, ◌∙◌}
use mathlib.Core.Bool.{Bool, true, ◌&&◌}
use mathlib.Core.Logic.{◌↔◌, ◌≢◌}
use mathlib.Core.List.{List, [], ◌∷◌}
use mathlib.Core.Option.{none, some}
use native.Mathlib.Omega.{arith}
use borrow.Author.Tests.{leb-true}
use lib.Dec.{leb}
use Rattle.model.specs.declared.refusal.Refusal.{Refusal}
use Rattle.model.specs.declared.refusal.Refusal.TheVariants.{BufferLength, TorusSide, RoundCount, PlanarSide, MalformedLine}
use Rattle.model.specs.declared.answers.Verdict.TheVariants as verdict
use Rattle.model.specs.Board.{Board, Sheet, vertex_limit}
use Rattle.model.specs.Torus.{least_side, largest_side}
use Rattle.model.specs.Planar.{least_planar, largest_planar, planar_vertices, planar_edges}
use Rattle.model.specs.Stack.{stack_vertices}
use Rattle.model.specs.Refusals.{Rule, Test, refusal_of, number_of, none_at, sized, length_rule, side_rule, planar_side_rule, decode_rules, decode_refusal, verdict_rules, verdict_refusal, distance_rules, distance_refusal, game_rules, game_refusal, trap_rules, trap_refusal, torus_rules, torus_refusal, planar_rules, planar_refusal, layer_rules, reading_rules, stack_rules, stack_refusal, torus_byte_rules, faces_rules, faces_refusal}
use Rattle.model.specs.Outcomes.{answer, key_or_none, decode_answer, judged_or_none, verdict_answer, distance_of, distance_answer, torus_answer}
use Rattle.model.specs.RoundsOutcomes.{rounds_or_none, rounds_answer}
use Rattle.model.specs.FacesOutcomes.{torus_sheet, faces_answer}
use Rattle.model.specs.Distance.{fewest}
use Rattle.model.specs.Game.{forced}
use Rattle.model.specs.GameOutcomes.{game_answer}
use Rattle.model.specs.Traps.{fewest_trap}
use Rattle.model.specs.TrapOutcomes.{trap_of, trap_answer}
use Rattle.model.specs.Text.{refused, read_text}
use Rattle.model.specs.TextOutcomes.{Buffers, read_rules, read_refusal, read_outcome, counts, write_rules, write_refusal}
use Rattle.model.specs.Words.{word_count, unpacked_sheet, lit_total}
use Rattle.model.specs.WordRefusals.{pack_rules, pack_refusal, unpack_rules, unpack_refusal, lit_rules, lit_refusal, decode_packed_rules, decode_packed_refusal}
use Rattle.model.specs.WordOutcomes.{pack_answer, lit_answer, list_answer, decode_packed_answer}
use Rattle.model.specs.Precedence.{Applies, here, there, NoneApplies, Decides, Smallest, AnswersSmallest}
use Rattle.model.proofs.Contradiction.{zero_one}
use Rattle.model.proofs.Xor.{and_left, and_right}
use Rattle.model.proofs.RuleNumbers.{decode_numbers, verdict_numbers, distance_numbers, torus_numbers, planar_numbers, stack_numbers, faces_numbers, read_numbers, write_numbers, pack_numbers, unpack_numbers, lit_numbers, decode_packed_numbers, game_numbers, trap_numbers}
use Rattle.theory.proofs.Precedence.{empty_applies, decides_exactly, earlier_kept, other_number}
use Rattle.theory.proofs.SmallestNumber.{smallest_exactly, answers_smallest}
use Rattle.model.specs.declared.answers.Verdict.TheVariants as verdict
use Rattle.model.specs.Answers.{word_counts_with}
use Rattle.std.specs.Prelude.{Ok, Err}
use Rattle.std.proofs.lemmas.Bool.{true_from_ne_false}

-- Decoding

pub decode_smallest : (X : Sheet) (support correction : List ℕ) (r : Refusal)
    → (decode_refusal X support correction ≡ some r) ↔ Smallest (decode_rules X support correction) r
unfolding decode_refusal
decode_smallest X support correction = smallest_exactly (decode_numbers X support correction) refl

pub decode_answers : (X : Sheet) (support correction : List ℕ) (q : Refusal) → Applies (decode_rules X support correction) q
    → AnswersSmallest (decode_rules X support correction) Err (decode_answer X support correction)
unfolding decode_answer decode_refusal
decode_answers X support correction = answers_smallest (decode_numbers X support correction) refl Err (key_or_none X)

-- Number 10 comes last.
pub decode_last : (X : Sheet) (support correction : List ℕ) (v : ℕ) → decode_answer X support correction ≡ Err (none_at v)
    → NoneApplies (decode_rules X support correction)
unfolding decode_answer decode_refusal
decode_last X support correction v =
    other_number (decode_numbers X support correction) (none_at v) refl Err (key_or_none X) (λ q e. cc)

-- In rounds decoding is tested alike.
pub rounds_answers : (X : Sheet) (support correction : List ℕ) (q : Refusal) → Applies (decode_rules X support correction) q
    → AnswersSmallest (decode_rules X support correction) Err (rounds_answer X support correction)
unfolding rounds_answer decode_refusal
rounds_answers X support correction = answers_smallest (decode_numbers X support correction) refl Err (rounds_or_none X)

pub rounds_last : (X : Sheet) (support correction : List ℕ) (v : ℕ) → rounds_answer X support correction ≡ Err (none_at v)
    → NoneApplies (decode_rules X support correction)
unfolding rounds_answer decode_refusal
rounds_last X support correction v =
    other_number (decode_numbers X support correction) (none_at v) refl Err (rounds_or_none X) (λ q e. cc)

-- The verdict

pub verdict_smallest : (X : Sheet) (handed : List ℕ) (r : Refusal) → (verdict_refusal X handed ≡ some r) ↔ Smallest (verdict_rules X handed) r
unfolding verdict_refusal
verdict_smallest X handed = smallest_exactly (verdict_numbers X handed) refl

pub verdict_answers : (X : Sheet) (handed : List ℕ) (q : Refusal) → Applies (verdict_rules X handed) q
    → AnswersSmallest (verdict_rules X handed) verdict.Refused (verdict_answer X handed)
unfolding verdict_answer verdict_refusal
verdict_answers X handed = answers_smallest (verdict_numbers X handed) refl verdict.Refused (judged_or_none X handed)

pub verdict_last : (X : Sheet) (handed : List ℕ) (v : ℕ) → verdict_answer X handed ≡ verdict.Refused (none_at v)
    → NoneApplies (verdict_rules X handed)
unfolding verdict_answer verdict_refusal
verdict_last X handed v = other_number (verdict_numbers X handed) (none_at v) refl verdict.Refused (judged_or_none X handed) (λ q e. cc)

-- The distance

pub distance_smallest : (B : Board) (shown : List ℕ) (r : Refusal) → (distance_refusal B shown ≡ some r) ↔ Smallest (distance_rules B shown) r
unfolding distance_refusal
distance_smallest B shown = smallest_exactly (distance_numbers B shown) refl

pub distance_answers : (B : Board) (shown : List ℕ) (q : Refusal) → Applies (distance_rules B shown) q
    → AnswersSmallest (distance_rules B shown) Err (distance_answer B shown)
unfolding distance_answer distance_refusal
distance_answers B shown = answers_smallest (distance_numbers B shown) refl Err (distance_of (fewest B))

-- The game

pub game_smallest : (B : Board) (position : List ℕ) (r : Refusal) → (game_refusal B position ≡ some r) ↔ Smallest (game_rules B position) r
unfolding game_refusal
game_smallest B position = smallest_exactly (game_numbers B position) refl

pub game_answers : (B : Board) (position : List ℕ) (q : Refusal) → Applies (game_rules B position) q
    → AnswersSmallest (game_rules B position) Err (game_answer B position)
unfolding game_answer game_refusal
game_answers B position = answers_smallest (game_numbers B position) refl Err (Ok (forced B position))

-- The search for a trap

pub trap_smallest : (B : Board) (loss set : List ℕ) (r : Refusal) → (trap_refusal B loss set ≡ some r) ↔ Smallest (trap_rules B loss set) r
unfolding trap_refusal
trap_smallest B loss set = smallest_exactly (trap_numbers B loss set) refl

pub trap_answers : (B : Board) (loss set : List ℕ) (q : Refusal) → Applies (trap_rules B loss set) q
    → AnswersSmallest (trap_rules B loss set) Err (trap_answer B loss set)
unfolding trap_answer trap_refusal
trap_answers B loss set = answers_smallest (trap_numbers B loss set) refl Err (trap_of (fewest_trap B loss))

-- The reader

pub read_smallest : (text : List ℕ) (old : Buffers) (r : Refusal)
    → (read_refusal text old ≡ some r) ↔ Smallest (read_rules text old) r
unfolding read_refusal
read_smallest text old = smallest_exactly (read_numbers text old) refl

pub read_answers : (text : List ℕ) (old : Buffers) (q : Refusal) → Applies (read_rules text old) q
    → AnswersSmallest (read_rules text old) Err (counts (read_outcome text old))
unfolding read_outcome read_refusal
read_answers text old q a =
    let w = answers_smallest (read_numbers text old) refl refused (read_text text) q a in
    record { refusal = w.refusal; smallest = w.smallest; answer = ap counts w.answer }

-- Number 13 comes last.
pub read_last : (text : List ℕ) (old : Buffers) (k : ℕ) → read_outcome text old ≡ refused (MalformedLine k)
    → NoneApplies (read_rules text old)
unfolding read_outcome read_refusal
read_last text old k =
    other_number (read_numbers text old) (MalformedLine k) refl refused (read_text text) (λ q e. cc)

-- The writer: 16 and 17 before 12 and 14

pub write_decides : (X : Sheet) (buffer : List ℕ) (r : Refusal) → (write_refusal X buffer ≡ some r) ↔ Decides (write_rules X buffer) r
unfolding write_refusal
write_decides X buffer = decides_exactly (write_numbers X buffer)

-- The torus builder: 11 before 3

pub torus_decides : (L : ℕ) (ends marks : List ℕ) (r : Refusal) → (torus_refusal L ends marks ≡ some r) ↔ Decides (torus_rules L ends marks) r
unfolding torus_refusal
torus_decides L ends marks = decides_exactly (torus_numbers L ends marks)

-- number 3 is given only where the side is in range, if number 11 is tested before
side_first : (L : ℕ) (rules : List Rule) → refusal_of (side_rule L ∷ rules) ≡ some BufferLength → (least_side ≤ L) × (L ≤ largest_side)
side_first L rules p =
    let kept = earlier_kept (side_rule L ∷ []) rules BufferLength p others in
    let in_range = true_from_ne_false (leb least_side L && leb L largest_side) (λ out. kept (TorusSide L) (here (out, refl))) in (
      leb-true least_side L (and_left (leb least_side L) (leb L largest_side) in_range),
      leb-true L largest_side (and_right (leb least_side L) (leb L largest_side) in_range),
    )
  where
    others : (q : Refusal) → Applies (side_rule L ∷ []) q → number_of q ≢ number_of BufferLength
    others q (here b) e = let eleven : number_of q ≡ 11 = ap number_of b.1 in omega arith
    others q (there a) e = empty_applies q a

-- Theorem: so it is with the builder.
pub torus_length : (L : ℕ) (ends marks : List ℕ) → torus_refusal L ends marks ≡ some BufferLength → (least_side ≤ L) × (L ≤ largest_side)
unfolding torus_refusal
torus_length L ends marks = side_first L (length_rule (sized ends (4 * (L * L)) && sized marks (2 * (L * L))) ∷ [])

-- the builder's answer alike
pub torus_length_answer : (L : ℕ) (ends marks : List ℕ) → torus_answer L ends marks ≡ Err BufferLength → (least_side ≤ L) × (L ≤ largest_side)
unfolding torus_answer
torus_length_answer L ends marks p = go (torus_refusal L ends marks) refl p
  where
    go : (t : Test) → torus_refusal L ends marks ≡ t → answer t Err (Ok (L * L)) ≡ Err BufferLength
        → (least_side ≤ L) × (L ≤ largest_side)
    go none e p = zero_one (cc)
    go (some r) e p = let same : r ≡ BufferLength = cc in torus_length L ends marks (e ∙ ap some same)

-- The planar builder: 18 before 3

pub planar_decides : (L : ℕ) (ends marks opened : List ℕ) (r : Refusal)
    → (planar_refusal L ends marks opened ≡ some r) ↔ Decides (planar_rules L ends marks opened) r
unfolding planar_refusal
planar_decides L ends marks opened = decides_exactly (planar_numbers L ends marks opened)

-- Theorem: number 3 is given only where the side is in range, since number 18 is tested before.
pub planar_length : (L : ℕ) (ends marks opened : List ℕ) → planar_refusal L ends marks opened ≡ some BufferLength
    → (least_planar ≤ L) × (L ≤ largest_planar)
unfolding planar_refusal
planar_length L ends marks opened p =
    let fit = sized ends (2 * planar_edges L) && sized marks (planar_edges L) && sized opened (planar_vertices L) in
    let kept = earlier_kept (planar_side_rule L ∷ []) (length_rule fit ∷ []) BufferLength p others in
    let in_range = true_from_ne_false (leb least_planar L && leb L largest_planar) (λ out. kept (PlanarSide L) (here (out, refl))) in (
      leb-true least_planar L (and_left (leb least_planar L) (leb L largest_planar) in_range),
      leb-true L largest_planar (and_right (leb least_planar L) (leb L largest_planar) in_range),
    )
  where
    others : (q : Refusal) → Applies (planar_side_rule L ∷ []) q → number_of q ≢ number_of BufferLength
    others q (here b) e = let eighteen : number_of q ≡ 18 = ap number_of b.1 in omega arith
    others q (there a) e = empty_applies q a

-- The stack's builder: 11, then 15, then 3, then 7

pub stack_decides : (L R : ℕ) (readings ends marks syndrome : List ℕ) (r : Refusal)
    → (stack_refusal L R readings ends marks syndrome ≡ some r) ↔ Decides (stack_rules L R readings ends marks syndrome) r
unfolding stack_refusal
stack_decides L R readings ends marks syndrome = decides_exactly (stack_numbers L R readings ends marks syndrome)

-- Theorem: number 3 is given only where side and rounds are in range, since 11 and 15 are tested before.
pub stack_length : (L R : ℕ) (readings ends marks syndrome : List ℕ) → stack_refusal L R readings ends marks syndrome ≡ some BufferLength
    → (least_side ≤ L) × (L ≤ largest_side) × (1 ≤ R) × (stack_vertices L R ≤ vertex_limit)
unfolding stack_refusal
stack_length L R readings ends marks syndrome p =
    let kept = earlier_kept (layer_rules L R) (reading_rules L R readings ends marks syndrome) BufferLength p others in
    let side = true_from_ne_false (leb least_side L && leb L largest_side) (λ out. kept (TorusSide L) (here (out, refl))) in
    let rounds = true_from_ne_false (leb 1 R && leb (stack_vertices L R) vertex_limit) (λ out. kept RoundCount (there (here (out, refl)))) in (
      leb-true least_side L (and_left (leb least_side L) (leb L largest_side) side),
      leb-true L largest_side (and_right (leb least_side L) (leb L largest_side) side),
      leb-true 1 R (and_left (leb 1 R) (leb (stack_vertices L R) vertex_limit) rounds),
      leb-true (stack_vertices L R) vertex_limit (and_right (leb 1 R) (leb (stack_vertices L R) vertex_limit) rounds),
    )
  where
    others : (q : Refusal) → Applies (layer_rules L R) q → number_of q ≢ number_of BufferLength
    others q (here b) e = let eleven : number_of q ≡ 11 = ap number_of b.1 in omega arith
    others q (there (here b)) e = let fifteen : number_of q ≡ 15 = ap number_of b.1 in omega arith
    others q (there (there a)) e = empty_applies q a

-- The verdict with faces: 11, then 3, then 7 to 9, and 10 last

pub faces_decides : (L : ℕ) (syndrome loss handed faces : List ℕ) (r : Refusal)
    → (faces_refusal L syndrome loss handed faces ≡ some r) ↔ Decides (faces_rules L syndrome loss handed faces) r
unfolding faces_refusal
faces_decides L syndrome loss handed faces = decides_exactly (faces_numbers L syndrome loss handed faces)

-- Theorem: number 3 is given only where the side is in range.
pub faces_length : (L : ℕ) (syndrome loss handed faces : List ℕ) → faces_refusal L syndrome loss handed faces ≡ some BufferLength
    → (least_side ≤ L) × (L ≤ largest_side)
unfolding faces_refusal
faces_length L syndrome loss handed faces = side_first L (torus_byte_rules L syndrome loss handed faces)

pub faces_last : (L : ℕ) (syndrome loss handed faces : List ℕ) (v : ℕ)
    → faces_answer L syndrome loss handed faces ≡ verdict.Refused (none_at v) → NoneApplies (faces_rules L syndrome loss handed faces)
unfolding faces_answer faces_refusal
faces_last L syndrome loss handed faces v =
    other_number (faces_numbers L syndrome loss handed faces) (none_at v) refl verdict.Refused
    (judged_or_none (torus_sheet L syndrome loss) handed) (λ q e. cc)

-- Packing

pub pack_smallest : (n m : ℕ) (syndrome loss syndromeWords lossWords : List ℕ) (r : Refusal)
    → (pack_refusal n m syndrome loss syndromeWords lossWords ≡ some r) ↔ Smallest (pack_rules n m syndrome loss syndromeWords lossWords) r
unfolding pack_refusal
pack_smallest n m syndrome loss syndromeWords lossWords = smallest_exactly (pack_numbers n m syndrome loss syndromeWords lossWords) refl

pub pack_answers : (n m : ℕ) (syndrome loss syndromeWords lossWords : List ℕ) (q : Refusal)
    → Applies (pack_rules n m syndrome loss syndromeWords lossWords) q
    → AnswersSmallest (pack_rules n m syndrome loss syndromeWords lossWords) Err
    (pack_answer n m syndrome loss syndromeWords lossWords)
unfolding pack_answer pack_refusal
pack_answers n m syndrome loss syndromeWords lossWords =
    answers_smallest (pack_numbers n m syndrome loss syndromeWords lossWords) refl Err (word_counts_with (word_count n) (word_count m))

-- Unpacking: 19 of the syndrome's words before 19 of the loss words

pub unpack_decides : (n m : ℕ) (syndromeWords lossWords syndrome loss : List ℕ) (r : Refusal)
    → (unpack_refusal n m syndromeWords lossWords syndrome loss ≡ some r) ↔ Decides (unpack_rules n m syndromeWords lossWords syndrome loss) r
unfolding unpack_refusal
unpack_decides n m syndromeWords lossWords syndrome loss = decides_exactly (unpack_numbers n m syndromeWords lossWords syndrome loss)

-- The lit total and the list of lit vertices

pub lit_smallest : (n : ℕ) (words : List ℕ) (others : Bool) (r : Refusal)
    → (lit_refusal n words others ≡ some r) ↔ Smallest (lit_rules n words others) r
unfolding lit_refusal
lit_smallest n words others = smallest_exactly (lit_numbers n words others) refl

pub lit_answers : (n : ℕ) (words : List ℕ) (q : Refusal) → Applies (lit_rules n words true) q
    → AnswersSmallest (lit_rules n words true) Err (lit_answer n words)
unfolding lit_answer lit_refusal
lit_answers n words = answers_smallest (lit_numbers n words true) refl Err (Ok (lit_total words))

pub list_answers : (n : ℕ) (words list : List ℕ) (q : Refusal) → Applies (lit_rules n words (sized list n)) q
    → AnswersSmallest (lit_rules n words (sized list n)) Err (list_answer n words list)
unfolding list_answer lit_refusal
list_answers n words list = answers_smallest (lit_numbers n words (sized list n)) refl Err (Ok (lit_total words))

-- Decoding of a packed sheet: 19 before 16 and 17, and 10 last

pub decode_packed_decides : (B : Board) (syndrome loss support correction : List ℕ) (r : Refusal)
    → (decode_packed_refusal B syndrome loss support correction ≡ some r) ↔ Decides (decode_packed_rules B syndrome loss support correction) r
unfolding decode_packed_refusal
decode_packed_decides B syndrome loss support correction = decides_exactly (decode_packed_numbers B syndrome loss support correction)

pub decode_packed_last : (B : Board) (syndrome loss support correction : List ℕ) (v : ℕ)
    → decode_packed_answer B syndrome loss support correction ≡ Err (none_at v)
    → NoneApplies (decode_packed_rules B syndrome loss support correction)
unfolding decode_packed_answer decode_packed_refusal
decode_packed_last B syndrome loss support correction v =
    other_number (decode_packed_numbers B syndrome loss support correction) (none_at v) refl Err
    (key_or_none (unpacked_sheet B syndrome loss)) (λ q e. cc)
