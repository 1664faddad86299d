-- What every exported function shows, by one law: of an answer a that is the definition's answer b the number r is packed; so r is the
-- definition's number, and what holds of the answer holds of what a caller takes from r. Assumes nothing.
use Prim.Native.Nat.{ℕ, ◌^◌, ◌<◌}
use mathlib.Core.Path.{◌≡◌, sym, ap, ◌∙◌, subst}
use mathlib.Core.List.{List}
use Rattle.model.specs.declared.answers.Verdict.{Verdict}
use Rattle.model.specs.Board.{Board, Sheet}
use Rattle.model.specs.Outcomes.{decode_answer, Decodes, DecodesSoundly, verdict_answer, Judges, JudgesSoundly}
use Rattle.model.specs.Outcomes.{distance_answer, Measures, torus_answer, Builds, planar_answer, BuildsPlanar}
use Rattle.model.specs.GameOutcomes.{game_answer, Plays, PlaysSoundly}
use Rattle.model.specs.TrapOutcomes.{trap_answer, SetsTrap, TrapsSoundly}
use Rattle.model.specs.FacesOutcomes.{faces_answer, ShowsFaces, FacesSoundly}
use Rattle.model.specs.StackOutcomes.{stack_answer, BuildsStack, StacksSoundly}
use Rattle.model.specs.RoundsOutcomes.{rounds_answer, DecodesInRounds, RoundsSoundly}
use Rattle.model.specs.TextOutcomes.{Buffers, counts, read_outcome, Reads, write_answer, Writes}
use Rattle.model.specs.WordOutcomes.{decode_packed_answer, DecodesPacked, DecodesPackedSoundly, pack_answer, Packs, PacksSoundly}
use Rattle.model.specs.WordOutcomes.{unpack_answer, Unpacks, UnpacksSoundly, lit_answer, Totals, TotalsSoundly, list_answer, Lists}
use Rattle.model.specs.Packing.{packed_decoded, packed_rounds, packed_verdict, packed_distance, packed_built, packed_reading, packed_written}
use Rattle.model.specs.Packing.{unpacked_decoded, unpacked_rounds, unpacked_verdict, unpacked_distance, unpacked_built, unpacked_reading, unpacked_written}
use Rattle.model.specs.Packing.{packed_trap, unpacked_trap}
use Rattle.model.specs.Packing.{packed_words, packed_lit, packed_game, unpacked_words, unpacked_lit, unpacked_game}
use Rattle.table.proofs.Returned.{decode_returned, rounds_returned, verdict_returned, distance_returned, game_returned, trap_returned, torus_returned, planar_returned, stack_returned, faces_returned, read_returned, write_returned, pack_returned, unpack_returned, lit_returned, list_returned, decode_packed_returned}
use Rattle.model.specs.Answers.{Built, Decoded, Distance, Game, Lit, Packed, Reading, RoundsDecoded, Trap, Written}

exported : {A : Type 0} (pack : A → ℕ) (unpack : ℕ → A) (P : A → Type 0) {a b : A} {r : ℕ} → unpack (pack b) ≡ b → a ≡ b → r ≡ pack a → P a
    → (r ≡ pack b) × P (unpack r)
exported pack unpack P back is number holds =
    let packed = number ∙ ap pack is in
    (packed, subst P (is ∙ sym (ap unpack packed ∙ back)) holds)

pub decode_exported : {X : Sheet} {support correction : List ℕ} {a : Decoded} {s k : List ℕ} {r : ℕ} → r ≡ packed_decoded a
    → Decodes X support correction a s k × DecodesSoundly X support correction a k
    → (r ≡ packed_decoded (decode_answer X support correction))
    × (Decodes X support correction (unpacked_decoded r) s k × DecodesSoundly X support correction (unpacked_decoded r) k)
decode_exported {X} {support} {correction} {a} {s} {k} p w =
    exported packed_decoded unpacked_decoded (λ d. Decodes X support correction d s k × DecodesSoundly X support correction d k)
    (decode_returned X support correction) w.0.result p w

pub rounds_exported : {X : Sheet} {support correction : List ℕ} {a : RoundsDecoded} {s k : List ℕ} {r : ℕ} → r ≡ packed_rounds a
    → DecodesInRounds X support correction a s k × RoundsSoundly X support correction a s k
    → (r ≡ packed_rounds (rounds_answer X support correction))
    × (DecodesInRounds X support correction (unpacked_rounds r) s k × RoundsSoundly X support correction (unpacked_rounds r) s k)
rounds_exported {X} {support} {correction} {a} {s} {k} p w =
    exported packed_rounds unpacked_rounds (λ d. DecodesInRounds X support correction d s k × RoundsSoundly X support correction d s k)
    (rounds_returned X support correction) w.0.result p w

pub decode_packed_exported : {B : Board} {syndrome loss support correction : List ℕ} {a : Decoded} {s k : List ℕ} {r : ℕ}
    → r ≡ packed_decoded a
    → DecodesPacked B syndrome loss support correction a s k × DecodesPackedSoundly B syndrome loss support correction a s k
    → (r ≡ packed_decoded (decode_packed_answer B syndrome loss support correction))
    × (DecodesPacked B syndrome loss support correction (unpacked_decoded r) s k
    × DecodesPackedSoundly B syndrome loss support correction (unpacked_decoded r) s k)
decode_packed_exported {B} {syndrome} {loss} {support} {correction} {a} {s} {k} p w =
    exported packed_decoded unpacked_decoded
    (λ d. DecodesPacked B syndrome loss support correction d s k × DecodesPackedSoundly B syndrome loss support correction d s k)
    (decode_packed_returned B syndrome loss support correction) w.0.result p w

pub verdict_exported : {X : Sheet} {handed : List ℕ} {a : Verdict} {r : ℕ} → r ≡ packed_verdict a → Judges X handed a × JudgesSoundly X handed a
    → (r ≡ packed_verdict (verdict_answer X handed)) × (Judges X handed (unpacked_verdict r) × JudgesSoundly X handed (unpacked_verdict r))
verdict_exported {X} {handed} p w =
    exported packed_verdict unpacked_verdict (λ v. Judges X handed v × JudgesSoundly X handed v) (verdict_returned X handed) w.0.result p w

pub distance_exported : {B : Board} {shown : List ℕ} {a : Distance} {l : List ℕ} {r : ℕ} → r ≡ packed_distance a → Measures B shown a l
    → (r ≡ packed_distance (distance_answer B shown)) × Measures B shown (unpacked_distance r) l
distance_exported {B} {shown} {a} {l} p w =
    exported packed_distance unpacked_distance (λ d. Measures B shown d l) (distance_returned B shown) w.result p w

pub game_exported : {B : Board} {position : List ℕ} {a : Game} {r : ℕ} → r ≡ packed_game a → Plays B position a × PlaysSoundly B position a
    → (r ≡ packed_game (game_answer B position)) × (Plays B position (unpacked_game r) × PlaysSoundly B position (unpacked_game r))
game_exported {B} {position} p w =
    exported packed_game unpacked_game (λ g. Plays B position g × PlaysSoundly B position g) (game_returned B position) w.0.result p w

pub trap_exported : {B : Board} {loss set : List ℕ} {a : Trap} {l : List ℕ} {r : ℕ} → r ≡ packed_trap a
    → SetsTrap B loss set a l × TrapsSoundly B loss set a l
    → (r ≡ packed_trap (trap_answer B loss set)) × (SetsTrap B loss set (unpacked_trap r) l × TrapsSoundly B loss set (unpacked_trap r) l)
trap_exported {B} {loss} {set} {a} {l} p w =
    exported packed_trap unpacked_trap (λ t. SetsTrap B loss set t l × TrapsSoundly B loss set t l) (trap_returned B loss set) w.0.result p w

pub torus_exported : {side : ℕ} {ends marks : List ℕ} {a : Built} {e m : List ℕ} {r : ℕ} → side < 2 ^ 32 → r ≡ packed_built a → Builds side ends marks a e m
    → (r ≡ packed_built (torus_answer side ends marks)) × Builds side ends marks (unpacked_built r) e m
torus_exported {side} {ends} {marks} {a} {e} {m} h p w =
    exported packed_built unpacked_built (λ b. Builds side ends marks b e m) (torus_returned side ends marks h) w.result p w

pub planar_exported : {side : ℕ} {ends marks opened : List ℕ} {a : Built} {e m o : List ℕ} {r : ℕ} → side < 2 ^ 32 → r ≡ packed_built a
    → BuildsPlanar side ends marks opened a e m o
    → (r ≡ packed_built (planar_answer side ends marks opened)) × BuildsPlanar side ends marks opened (unpacked_built r) e m o
planar_exported {side} {ends} {marks} {opened} {a} {e} {m} {o} h p w =
    exported packed_built unpacked_built (λ b. BuildsPlanar side ends marks opened b e m o) (planar_returned side ends marks opened h) w.result p w

pub stack_exported : {side rounds : ℕ} {readings ends marks syndrome : List ℕ} {a : Built} {e m s : List ℕ} {r : ℕ} → side < 2 ^ 32
    → r ≡ packed_built a
    → BuildsStack side rounds readings ends marks syndrome a e m s × StacksSoundly side rounds readings a e m s
    → (r ≡ packed_built (stack_answer side rounds readings ends marks syndrome))
    × (BuildsStack side rounds readings ends marks syndrome (unpacked_built r) e m s × StacksSoundly side rounds readings (unpacked_built r) e m s)
stack_exported {side} {rounds} {readings} {ends} {marks} {syndrome} {a} {e} {m} {s} h p w =
    exported packed_built unpacked_built
    (λ b. BuildsStack side rounds readings ends marks syndrome b e m s × StacksSoundly side rounds readings b e m s)
    (stack_returned side rounds readings ends marks syndrome h) w.0.result p w

pub faces_exported : {side : ℕ} {syndrome loss handed faces : List ℕ} {a : Verdict} {f : List ℕ} {r : ℕ} → side < 2 ^ 32 → r ≡ packed_verdict a
    → ShowsFaces side syndrome loss handed faces a f × FacesSoundly side syndrome loss handed faces a f
    → (r ≡ packed_verdict (faces_answer side syndrome loss handed faces))
    × (ShowsFaces side syndrome loss handed faces (unpacked_verdict r) f × FacesSoundly side syndrome loss handed faces (unpacked_verdict r) f)
faces_exported {side} {syndrome} {loss} {handed} {faces} {a} {f} h p w =
    exported packed_verdict unpacked_verdict
    (λ v. ShowsFaces side syndrome loss handed faces v f × FacesSoundly side syndrome loss handed faces v f)
    (faces_returned side syndrome loss handed faces h) w.0.result p w

pub read_exported : {text : List ℕ} {old : Buffers} {a : Reading} {new : Buffers} {r : ℕ} → r ≡ packed_reading a → Reads text old a new
    → (r ≡ packed_reading (counts (read_outcome text old))) × Reads text old (unpacked_reading r) new
read_exported {text} {old} {a} {new} p w =
    exported packed_reading unpacked_reading (λ x. Reads text old x new) (read_returned text old) w.result p w

pub write_exported : {X : Sheet} {buffer : List ℕ} {a : Written} {t : List ℕ} {r : ℕ} → r ≡ packed_written a → Writes X buffer a t
    → (r ≡ packed_written (write_answer X buffer)) × Writes X buffer (unpacked_written r) t
write_exported {X} {buffer} {a} {t} p w =
    exported packed_written unpacked_written (λ x. Writes X buffer x t) (write_returned X buffer) w.result p w

pub pack_exported : {n m : ℕ} {syndrome loss lit lost : List ℕ} {a : Packed} {i j : List ℕ} {r : ℕ} → r ≡ packed_words a
    → Packs n m syndrome loss lit lost a i j × PacksSoundly n m syndrome loss a i j
    → (r ≡ packed_words (pack_answer n m syndrome loss lit lost))
    × (Packs n m syndrome loss lit lost (unpacked_words r) i j × PacksSoundly n m syndrome loss (unpacked_words r) i j)
pack_exported {n} {m} {syndrome} {loss} {lit} {lost} {a} {i} {j} p w =
    exported packed_words unpacked_words (λ x. Packs n m syndrome loss lit lost x i j × PacksSoundly n m syndrome loss x i j)
    (pack_returned n m syndrome loss lit lost) w.0.result p w

pub unpack_exported : {n m : ℕ} {lit lost syndrome loss : List ℕ} {a : Reading} {s l : List ℕ} {r : ℕ} → r ≡ packed_reading a
    → Unpacks n m lit lost syndrome loss a s l × UnpacksSoundly n m lit lost a s l
    → (r ≡ packed_reading (unpack_answer n m lit lost syndrome loss))
    × (Unpacks n m lit lost syndrome loss (unpacked_reading r) s l × UnpacksSoundly n m lit lost (unpacked_reading r) s l)
unpack_exported {n} {m} {lit} {lost} {syndrome} {loss} {a} {s} {l} p w =
    exported packed_reading unpacked_reading (λ x. Unpacks n m lit lost syndrome loss x s l × UnpacksSoundly n m lit lost x s l)
    (unpack_returned n m lit lost syndrome loss) w.0.result p w

pub lit_exported : {n : ℕ} {words : List ℕ} {a : Lit} {r : ℕ} → r ≡ packed_lit a → Totals n words a × TotalsSoundly n words a
    → (r ≡ packed_lit (lit_answer n words)) × (Totals n words (unpacked_lit r) × TotalsSoundly n words (unpacked_lit r))
lit_exported {n} {words} p w =
    exported packed_lit unpacked_lit (λ x. Totals n words x × TotalsSoundly n words x) (lit_returned n words) w.0.result p w

pub list_exported : {n : ℕ} {words list : List ℕ} {a : Lit} {l : List ℕ} {r : ℕ} → r ≡ packed_lit a
    → Lists n words list a l × TotalsSoundly n words a
    → (r ≡ packed_lit (list_answer n words list)) × (Lists n words list (unpacked_lit r) l × TotalsSoundly n words (unpacked_lit r))
list_exported {n} {words} {list} {a} {l} p w =
    exported packed_lit unpacked_lit (λ x. Lists n words list x l × TotalsSoundly n words x) (list_returned n words list) w.0.result p w
