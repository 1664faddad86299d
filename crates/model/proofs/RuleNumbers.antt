-- The numbers of each call's rules, in the order in which they are tested. They rise in every call but seven: the builders and the verdict
-- with faces test the side before the lengths, the stack's builder the rounds too, the writer tests the open bytes before the text,
-- unpacking has two kinds of words under one number, and decoding of a packed sheet tests both before the open bytes. Assumes nothing.
use Prim.Native.Nat.{ℕ}
use mathlib.Core.Path.{◌≡◌, refl}
use mathlib.Core.Bool.{Bool}
use mathlib.Core.List.{List, [], ◌∷◌}
use Rattle.model.specs.Board.{Board, Sheet}
use Rattle.model.specs.Refusals.{decode_rules, verdict_rules, distance_rules, torus_rules, planar_rules, stack_rules, faces_rules, game_rules, trap_rules}
use Rattle.model.specs.TextOutcomes.{Buffers, read_rules, write_rules}
use Rattle.model.specs.WordRefusals.{pack_rules, unpack_rules, lit_rules, decode_packed_rules}
use Rattle.model.specs.Precedence.{Numbered}

-- a rule with places: at each place the refusal computes to the rule's number and to that place
its_place : (k i : ℕ) → (k ≡ k) × (i ≡ i)
its_place k i = (refl, refl)

pub distance_numbers : (B : Board) (shown : List ℕ) → Numbered (1 ∷ 2 ∷ 3 ∷ 4 ∷ 6 ∷ 16 ∷ []) (distance_rules B shown)
unfolding distance_rules
distance_numbers B shown = record { in_turn = (refl, (refl, (refl, (its_place 4, (its_place 6, (its_place 16, tt)))))) }

pub decode_numbers : (X : Sheet) (support correction : List ℕ)
    → Numbered (1 ∷ 2 ∷ 3 ∷ 4 ∷ 6 ∷ 7 ∷ 8 ∷ 16 ∷ 17 ∷ []) (decode_rules X support correction)
unfolding decode_rules
decode_numbers X support correction =
    record { in_turn = (refl, (refl, (refl, (its_place 4, (its_place 6, (its_place 7, (its_place 8, (its_place 16, (its_place 17, tt))))))))) }

pub verdict_numbers : (X : Sheet) (handed : List ℕ) → Numbered (1 ∷ 2 ∷ 3 ∷ 4 ∷ 6 ∷ 7 ∷ 8 ∷ 9 ∷ 16 ∷ 17 ∷ []) (verdict_rules X handed)
unfolding verdict_rules
verdict_numbers X handed =
    record { in_turn = (refl, (refl, (refl, (its_place 4, (its_place 6, (its_place 7, (its_place 8, (its_place 9, (its_place 16, (its_place 17, tt)))))))))) }

pub torus_numbers : (L : ℕ) (ends marks : List ℕ) → Numbered (11 ∷ 3 ∷ []) (torus_rules L ends marks)
unfolding torus_rules
torus_numbers L ends marks = record { in_turn = (refl, (refl, tt)) }

pub planar_numbers : (L : ℕ) (ends marks opened : List ℕ) → Numbered (18 ∷ 3 ∷ []) (planar_rules L ends marks opened)
unfolding planar_rules
planar_numbers L ends marks opened = record { in_turn = (refl, (refl, tt)) }

pub stack_numbers : (L R : ℕ) (readings ends marks syndrome : List ℕ)
    → Numbered (11 ∷ 15 ∷ 3 ∷ 7 ∷ []) (stack_rules L R readings ends marks syndrome)
unfolding stack_rules
stack_numbers L R readings ends marks syndrome = record { in_turn = (refl, (refl, (refl, (its_place 7, tt)))) }

pub faces_numbers : (L : ℕ) (syndrome loss handed faces : List ℕ)
    → Numbered (11 ∷ 3 ∷ 7 ∷ 8 ∷ 9 ∷ []) (faces_rules L syndrome loss handed faces)
unfolding faces_rules
faces_numbers L syndrome loss handed faces = record { in_turn = (refl, (refl, (its_place 7, (its_place 8, (its_place 9, tt))))) }

pub read_numbers : (text : List ℕ) (old : Buffers) → Numbered (3 ∷ 12 ∷ []) (read_rules text old)
unfolding read_rules
read_numbers text old = record { in_turn = (refl, (refl, tt)) }

pub write_numbers : (X : Sheet) (buffer : List ℕ)
    → Numbered (1 ∷ 2 ∷ 3 ∷ 4 ∷ 6 ∷ 7 ∷ 8 ∷ 16 ∷ 17 ∷ 12 ∷ 14 ∷ []) (write_rules X buffer)
unfolding write_rules
write_numbers X buffer =
    record { in_turn = (refl, (refl, (refl, (its_place 4, (its_place 6, (its_place 7, (its_place 8, (its_place 16, (its_place 17, (refl, (refl, tt))))))))))) }

pub pack_numbers : (n m : ℕ) (syndrome loss syndromeWords lossWords : List ℕ)
    → Numbered (1 ∷ 2 ∷ 3 ∷ 7 ∷ 8 ∷ []) (pack_rules n m syndrome loss syndromeWords lossWords)
unfolding pack_rules
pack_numbers n m syndrome loss syndromeWords lossWords =
    record { in_turn = (refl, (refl, (refl, (its_place 7, (its_place 8, tt))))) }

pub unpack_numbers : (n m : ℕ) (syndromeWords lossWords syndrome loss : List ℕ)
    → Numbered (1 ∷ 2 ∷ 3 ∷ 19 ∷ 19 ∷ []) (unpack_rules n m syndromeWords lossWords syndrome loss)
unfolding unpack_rules
unpack_numbers n m syndromeWords lossWords syndrome loss =
    record { in_turn = (refl, (refl, (refl, (its_place 19, (its_place 19, tt))))) }

pub lit_numbers : (n : ℕ) (words : List ℕ) (others : Bool) → Numbered (1 ∷ 3 ∷ 19 ∷ []) (lit_rules n words others)
unfolding lit_rules
lit_numbers n words others = record { in_turn = (refl, (refl, (its_place 19, tt))) }

pub decode_packed_numbers : (B : Board) (syndrome loss support correction : List ℕ)
    → Numbered (1 ∷ 2 ∷ 3 ∷ 4 ∷ 6 ∷ 19 ∷ 19 ∷ 16 ∷ 17 ∷ []) (decode_packed_rules B syndrome loss support correction)
unfolding decode_packed_rules
decode_packed_numbers B syndrome loss support correction =
    record { in_turn = (refl, (refl, (refl, (its_place 4, (its_place 6, (its_place 19, (its_place 19, (its_place 16, (its_place 17, tt))))))))) }

pub game_numbers : (B : Board) (position : List ℕ) → Numbered (1 ∷ 2 ∷ 3 ∷ 4 ∷ 6 ∷ 16 ∷ 20 ∷ 21 ∷ 22 ∷ []) (game_rules B position)
unfolding game_rules
game_numbers B position =
    record { in_turn = (refl, (refl, (refl, (its_place 4, (its_place 6, (its_place 16, (refl, (its_place 21, (refl, tt))))))))) }

pub trap_numbers : (B : Board) (loss set : List ℕ) → Numbered (1 ∷ 2 ∷ 3 ∷ 4 ∷ 6 ∷ 8 ∷ 16 ∷ 23 ∷ []) (trap_rules B loss set)
unfolding trap_rules
trap_numbers B loss set =
    record { in_turn = (refl, (refl, (refl, (its_place 4, (its_place 6, (its_place 8, (its_place 16, (refl, tt)))))))) }
