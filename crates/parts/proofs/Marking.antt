-- A root is marked exactly where its part is odd, so the first vertex with a marked root is the first of an odd part. Assumes nothing.
use Prim.Native.Nat.{ℕ, ◌<◌}
use mathlib.Core.Path.{◌≡◌, refl, ap, ap₂, ◌∙◌, subst}
use mathlib.Core.Bool.{Bool, true, false, cond, not, ◌&&◌}
use mathlib.Core.List.{List, []}
use mathlib.Core.Option.{Option}
use lib.Dec.{eqb}
use Rattle.model.specs.Board.{unmarked}
use Rattle.model.specs.Sums.{bit, ones, first_up_to}
use Rattle.model.specs.Components.{label, within}
use Rattle.model.specs.Growth.{oddly_lit, holds_open, odd}
use Rattle.model.specs.Decoding.{parts, in_odd_part, smallest_odd}
use Rattle.model.specs.Refusals.{edges_of}
use Rattle.model.proofs.SumLaws.{odd_cong, some_cong, first_cong}
use Rattle.theory.proofs.MarksAside.{labels_aside}
use Rattle.union_find.specs.Trees.{root_of}
use Rattle.union_find.specs.Joining.{Mirrors}
use Rattle.parts.specs.Connection.{Connects}
use Rattle.parts.specs.RootParities.{odd_at_root, Parities, open_at_root, Cleared, marked}
use Rattle.parts.proofs.Rooting.{root_limited}

module _ {n : ℕ} {ends opened syndrome parent odd odd' : List ℕ} (c : Connects n ends parent) (w : Parities n parent syndrome odd)
    (x : Cleared n parent opened odd odd')
  where
    -- the parts look at no open bytes
    mirrored : Mirrors n parent (parts (unmarked n (edges_of ends) ends opened))
    unfolding parts
    mirrored = subst (Mirrors n parent) (labels_aside n ends _ _ [] opened refl (λ e. true)) c.mirrors

    -- a vertex's root is marked exactly where its part is odd
    marked_odd : (v : ℕ) → v < n → marked parent odd' v ≡ in_odd_part (unmarked n (edges_of ends) ends opened) (ones syndrome) v
    unfolding in_odd_part odd oddly_lit holds_open
    marked_odd v h =
        let l = parts (unmarked n (edges_of ends) ends opened) in
        let r = root_of parent v in
        let limited = root_limited c.rooted h refl in
        ap (λ y. eqb y 1) (x.at r limited ∙ ap (cond (open_at_root n parent opened r) 0) (w.at r limited))
        ∙ both (open_at_root n parent opened r) (odd_at_root n parent syndrome r)
        ∙ ap₂ (λ a b. a && not b)
        (odd_cong n _ (λ u. ones syndrome u && within l (label l v) u) (λ u k. ap (λ t. ones syndrome u && t) (mirrored.same u v k h)))
        (some_cong n _ (λ u. ones opened u && within l (label l v) u) (λ u k. ap (λ t. ones opened u && t) (mirrored.same u v k h)))
      where
        both : (o s : Bool) → eqb (cond o 0 (bit s)) 1 ≡ (s && not o)
        both true true = refl
        both true false = refl
        both false true = refl
        both false false = refl

    -- so the first vertex with a marked root is the first of an odd part
    pub first_odd_lem : {o : Option ℕ} → o ≡ first_up_to n (marked parent odd')
        → o ≡ smallest_odd (unmarked n (edges_of ends) ends opened) (ones syndrome)
    unfolding smallest_odd
    first_odd_lem q = q ∙ first_cong n _ _ marked_odd
