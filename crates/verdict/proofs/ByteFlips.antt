-- Bytes that are flipped one after the other hold the exclusive or of what was flipped. Assumes nothing.
use Prim.Native.Nat.{ℕ, ◌+◌}
use mathlib.Core.Path.{◌≡◌, refl, sym, ap, ◌∙◌}
use mathlib.Core.Bool.{false, ◌&&◌}
use mathlib.Core.List.{List}
use native.Mathlib.Numerals.{add-one}
use Rattle.model.specs.Sums.{Set, ◌⊕◌, odd_up_to, ones}
use Rattle.model.proofs.Xor.{xor_false, xor_assoc}
use Rattle.verdict.specs.VertexParities.{Bits, Flipped, meets_at, met_by}

-- nothing flipped
unturned : {n : ℕ} {l : List ℕ} (g : Set) → ((v : ℕ) → g v ≡ false) → Bits n l → Flipped g n l l
unturned {n} {l} g off b = record { bits = b; at = λ v h. rw (off v) (sym (xor_false (ones l v))) }

-- one flip after another
both : {n : ℕ} {l l' l'' : List ℕ} (g h : Set) → Flipped g n l l' → Flipped h n l' l'' → Flipped (λ v. g v ⊕ h v) n l l''
both {n} {l} g h p q =
    record {
      bits = q.bits;
      at = λ v k. q.at v k ∙ ap (λ b. b ⊕ h v) (p.at v k) ∙ xor_assoc (ones l v) (g v) (h v);
    }

-- no edge counted, and one edge more
pub counted_none : {n : ℕ} {l : List ℕ} (ends : List ℕ) (H : Set) → Bits n l → Flipped (met_by ends H 0) n l l
unfolding odd_up_to
counted_none ends H b = unturned (met_by ends H 0) (λ v. refl) b

pub counted_more : {n : ℕ} {l l' l'' : List ℕ} (ends : List ℕ) (H : Set) (k : ℕ) →
    Flipped (met_by ends H k) n l l' →
    Flipped (λ v. H k && meets_at ends k v) n l' l'' →
    Flipped (met_by ends H (k + 1)) n l l''
unfolding odd_up_to
counted_more ends H k p q = rw add-one (both (met_by ends H k) (λ v. H k && meets_at ends k v) p q)
