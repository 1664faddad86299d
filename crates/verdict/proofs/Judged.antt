-- What the bytes left after flipping, and the two parities, say of the definition of the verdict. Assumes nothing.
use Prim.Native.Nat.{ℕ, ◌<◌, ◌≤◌}
use mathlib.Core.Path.{◌≡◌, refl, sym, ap, ap₂, ◌∙◌}
use mathlib.Core.Bool.{Bool, true, false, cond, not, ◌&&◌}
use mathlib.Core.List.{List}
use mathlib.Core.Option.{Option, none, some}
use native.Mathlib.Omega.{arith}
use borrow.Author.Tests.{ne_eqb}
use lib.Dec.{eqb, ltb}
use lib.ListN.{length, get_or, take}
use lib.Seq.{get_or-take, length-take-le}
use Rattle.model.specs.Sums.{Set, ◌⊕◌, bit, first_up_to, ones}
use Rattle.model.specs.Board.{Board, edges, is_open}
use Rattle.model.specs.Syndrome.{odd_end, syndrome}
use Rattle.model.specs.Winding.{crossings, together}
use Rattle.model.specs.Verdict.{differs, compared, judged}
use Rattle.model.specs.Refusals.{above}
use Rattle.model.specs.declared.answers.Verdict.{Verdict}
use Rattle.model.specs.declared.answers.Verdict.TheVariants.{Off, Same, Wound}
use Rattle.model.proofs.Xor.{xor_comm}
use Rattle.model.proofs.Bits.{byte_bit}
use Rattle.model.proofs.SumLaws.{first_cong}
use Rattle.board.proofs.CopyLaws.{copied}
use Rattle.verdict.specs.VertexParities.{Bits, Flipped, met_by, Cleared}
use Rattle.verdict.specs.CrossingParities.{crossed_by}
use Rattle.verdict.specs.Judging.{Judgeable}
use Rattle.verdict.proofs.LoadedBytes.{loaded_ones}

-- a byte that is 0 or 1 is lit where it is 1
lit : (x : ℕ) → x ≤ 1 → ltb 0 x ≡ eqb x 1
lit x h = ap (λ y. ltb 0 y) (byte_bit x h) ∙ go (eqb x 1)
  where
    go : (b : Bool) → ltb 0 (bit b) ≡ b
    go true = refl
    go false = refl

-- the first byte that is lit is where the syndromes first differ
first_lit : (B : Board) (S H : Set) (l : List ℕ) → Bits B.vertices l →
    ((v : ℕ) → v < B.vertices → ones l v ≡ syndrome B H v ⊕ S v) →
    first_up_to (length (take B.vertices l)) (above 0 (take B.vertices l)) ≡ differs B S H
unfolding differs
first_lit B S H l b at =
    rw (length-take-le B.vertices l (omega arith))
    (first_cong B.vertices (above 0 (take B.vertices l)) (λ v. syndrome B H v ⊕ S v)
    (λ v h. ap (λ x. ltb 0 x) (get_or-take B.vertices l v 0 h) ∙ lit (get_or l v 0) (b.small v h) ∙ at v h))

module _ (B : Board) (lit-bytes handed correction : List ℕ) (j : Judgeable B lit-bytes handed correction) where
  -- the parities that are cleared stay 0 or 1
  pub cleared_bits : {g : Set} {k l m : List ℕ} → Flipped g B.vertices k l → Cleared (length B.opened) B.opened l m → Bits B.vertices m
  cleared_bits {l = l} f c =
      record {
        limit = f.bits.limit;
        long = c.long;
        small = λ v h. rw (c.at v (omega (arith, j.open_bytes))) (small (is_open B v) (f.bits.small v h));
      }
    where
      small : (o : Bool) {x : ℕ} → x ≤ 1 → cond o 0 x ≤ 1
      small true h = omega arith
      small false h = h

  -- the syndrome put, flipped by every edge that is handed in, and cleared where a vertex is open
  pub cleared_differs : (d k l m : List ℕ) {o : Option ℕ} → k ≡ copied lit-bytes d B.vertices →
      Flipped (met_by B.ends (ones handed) (length handed)) B.vertices k l → Cleared (length B.opened) B.opened l m →
      o ≡ first_up_to (length (take B.vertices m)) (above 0 (take B.vertices m)) →
      differs B (ones lit-bytes) (ones handed) ≡ o
  unfolding syndrome odd_end
  cleared_differs d k l m copy f c q =
      sym (q ∙ first_lit B (ones lit-bytes) (ones handed) m (cleared_bits f c) (λ v h. at v h (is_open B v) refl))
    where
      met : ℕ → Bool
      met v = met_by B.ends (ones handed) (edges B) v

      flipped : (v : ℕ) → v < B.vertices → ones l v ≡ met v ⊕ ones lit-bytes v
      flipped v h =
          f.at v h
          ∙ ap (λ x. x ⊕ met_by B.ends (ones handed) (length handed) v) (loaded_ones B.vertices lit-bytes d k j.syndrome_bytes copy v h)
          ∙ ap (λ i. ones lit-bytes v ⊕ met_by B.ends (ones handed) i v) j.handed_bytes.count
          ∙ xor_comm (ones lit-bytes v) (met v)

      kept : (v : ℕ) → v < B.vertices → get_or m v 0 ≡ cond (is_open B v) 0 (get_or l v 0)
      kept v h = c.at v (omega (arith, j.open_bytes))

      at : (v : ℕ) → v < B.vertices → (t : Bool) → is_open B v ≡ t → ones m v ≡ (not (is_open B v) && met v) ⊕ ones lit-bytes v
      at v h true p =
          ap (λ x. eqb x 1) (kept v h ∙ ap (λ t. cond t 0 (get_or l v 0)) p)
          ∙ sym (ap₂ (λ x y. (not x && met v) ⊕ y) p (j.unlit v h p))
      at v h false p =
          ap (λ x. eqb x 1) (kept v h ∙ ap (λ t. cond t 0 (get_or l v 0)) p)
          ∙ flipped v h
          ∙ sym (ap (λ x. (not x && met v) ⊕ ones lit-bytes v) p)

  abbrev verdict_is : Verdict
  verdict_is = judged B (ones lit-bytes) (ones correction) (ones handed)

  -- off, same and wound by what was found
  module _ (d : List ℕ) {k l m : List ℕ} {o : Option ℕ} (copy : k ≡ copied lit-bytes d B.vertices)
      (f : Flipped (met_by B.ends (ones handed) (length handed)) B.vertices k l) (c : Cleared (length B.opened) B.opened l m)
      (q : o ≡ first_up_to (length (take B.vertices m)) (above 0 (take B.vertices m))) where
    found : differs B (ones lit-bytes) (ones handed) ≡ o
    found = cleared_differs d k l m copy f c q

    pub judged_off : {v : ℕ} → o ≡ some v → Off (record { 0 = v }) ≡ verdict_is
    unfolding judged
    judged_off p = sym (rw (found ∙ p))

    judged_marks : {x : ℕ} → o ≡ none → x ≡ crossed_by B.marks (together (ones handed) (ones correction)) → compared x ≡ verdict_is
    unfolding judged crossings
    judged_marks p r = sym (rw (found ∙ p, r))

    pub judged_same : {x : ℕ} → o ≡ none → x ≡ crossed_by B.marks (together (ones handed) (ones correction)) → x ≡ 0 → Same ≡ verdict_is
    judged_same p r z = sym (rw z) ∙ judged_marks p r

    pub judged_wound : {x : ℕ} → o ≡ none → x ≡ crossed_by B.marks (together (ones handed) (ones correction)) → (x ≡ 0 → ⊥)
        → Wound x ≡ verdict_is
    judged_wound {x} p r z = sym (rw (ne_eqb x 0 z)) ∙ judged_marks p r
