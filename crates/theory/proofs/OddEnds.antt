-- The odd ends of the correction: a cluster with an odd number of syndrome vertices gets its smallest open vertex as one more. So where no
-- cluster is odd every cluster holds an even number of them, and the correction, which has them for its odd ends, has the syndrome.
-- Assumes nothing.
use Prim.Native.Nat.{ℕ, ◌<◌}
use mathlib.Core.Path.{◌≡◌, refl, sym, ap, ap₂, ◌∙◌}
use mathlib.Core.Bool.{Bool, true, false, not, ◌&&◌, and-false, and-true, and_comm, true≢false}
use mathlib.Core.List.{List}
use mathlib.Core.Option.{Option, none, some}
use native.Mathlib.Omega.{arith}
use borrow.Author.Tests.{eqb-true, not-true, ltb-true, ltb-false}
use lib.Dec.{eqb, ltb}
use Rattle.std.proofs.lemmas.Bool.{false_from_ne_true, and_from}
use Rattle.model.specs.Sums.{Set, ◌⊕◌, odd_up_to, some_up_to, first_up_to, ones, bytes}
use Rattle.model.specs.Board.{Board, Inside, Unlit, edges, is_open}
use Rattle.model.specs.Syndrome.{HasOddEnds, syndrome, HasSyndrome}
use Rattle.model.specs.Components.{label, labels, within}
use Rattle.model.specs.Growth.{oddly_lit, holds_open}
use Rattle.model.specs.Forest.{forest}
use Rattle.model.specs.Correction.{outlet, odd_ends, correction}
use Rattle.model.proofs.Xor.{xor_false, xor_and, and_left, and_right}
use Rattle.model.proofs.SumLaws.{odd_cong, odd_xor, odd_and, some_found, some_none, none_some, some_cong, First, first_found, none_first}
use Rattle.model.proofs.ListLaws.{ones_bytes}
use Rattle.theory.proofs.OddMembers.{odd_one}
use Rattle.theory.proofs.GrowthRun.{EvenlyLit, NoneOdd}
use Rattle.theory.proofs.Syndromes.{shut_syndrome, open_syndrome}
use Rattle.theory.proofs.OddParts.{even_open}
use Rattle.theory.proofs.Forests.{Within}
use Rattle.theory.proofs.Corrections.{spanned_in_forest, spanned_unique, spanned_has_ends}

module _ (B : Board) (l : List ℕ) where
  -- the open vertices of part a
  abbrev open_in : ℕ → Set
  open_in a v = is_open B v && within l a v

  -- A part that holds an open vertex has one outlet, the smallest of them.
  one_outlet : (a : ℕ) → holds_open B l a ≡ true → odd_up_to B.vertices (λ v. outlet B l v && within l a v) ≡ true
  unfolding holds_open
  one_outlet a p = go (first_up_to B.vertices (open_in a)) refl
    where
      -- the first of them is an outlet, since none before it is open
      here : (x : ℕ) → First B.vertices (open_in a) x → (outlet B l x && within l a x) ≡ true
      here x f =
          let in-it = and_right (is_open B x) (within l a x) f.holds in
          let own = eqb-true (label l x) a in-it in
          and_from _ _
          (and_from _ _ (and_left (is_open B x) (within l a x) f.holds)
          (ap not (none_some x (open_in (label l x)) (λ u h. ap (λ b. open_in b u) own ∙ f.before u h))))
          in-it

      -- none after it is, since it is the smaller one
      others : (x : ℕ) → First B.vertices (open_in a) x → (i : ℕ) → i < B.vertices → (x ≡ i → ⊥) → (outlet B l i && within l a i) ≡ false
      others x f i h apart = false_from_ne_true _ (λ p. at p (ltb i x) refl)
        where
          at : (outlet B l i && within l a i) ≡ true → (t : Bool) → ltb i x ≡ t → ⊥
          at p true q =
              let out = and_left (outlet B l i) (within l a i) p in
              let opens = and_from (is_open B i) (within l a i) (and_left (is_open B i) _ out) (and_right (outlet B l i) (within l a i) p) in
              true≢false (sym opens ∙ f.before i (ltb-true i x q))
          at p false q =
              let own = eqb-true (label l i) a (and_right (outlet B l i) (within l a i) p) in
              let smallest = not-true _ (and_right (is_open B i) _ (and_left (outlet B l i) (within l a i) p)) in
              let later : x < i = omega (arith, ltb-false i x q) in
              true≢false (sym (ap (λ b. open_in b x) own ∙ f.holds) ∙ some_none i (open_in (label l i)) smallest x later)

      go : (o : Option ℕ) → first_up_to B.vertices (open_in a) ≡ o → odd_up_to B.vertices (λ v. outlet B l v && within l a v) ≡ true
      go none q =
          let x = some_found B.vertices (open_in a) p in
          absurd (true≢false (sym x.holds ∙ none_first B.vertices (open_in a) q x.at x.less))
      go (some x) q =
          let f = first_found B.vertices (open_in a) x q in
          odd_one B.vertices x (λ v. outlet B l v && within l a v) f.less (others x f) ∙ here x f

  module _ (S : Set) where
    -- the outlet counts in part a where that is oddly lit
    added : (a : ℕ) → odd_up_to B.vertices (λ v. (outlet B l v && oddly_lit B l S (label l v)) && within l a v)
        ≡ (oddly_lit B l S a && odd_up_to B.vertices (λ v. outlet B l v && within l a v))
    added a =
        odd_cong B.vertices (λ v. (outlet B l v && oddly_lit B l S (label l v)) && within l a v) (λ v. oddly_lit B l S a && (outlet B l v && within l a v))
        (λ v h. each v (within l a v) refl)
        ∙ odd_and B.vertices (oddly_lit B l S a) (λ v. outlet B l v && within l a v)
      where
        each : (v : ℕ) (t : Bool) → within l a v ≡ t
            → ((outlet B l v && oddly_lit B l S (label l v)) && within l a v) ≡ (oddly_lit B l S a && (outlet B l v && within l a v))
        each v true p =
            ap₂ (λ x y. (outlet B l v && x) && y) (ap (oddly_lit B l S) (eqb-true (label l v) a p)) p
            ∙ and-true (outlet B l v && oddly_lit B l S a)
            ∙ and_comm (outlet B l v) (oddly_lit B l S a)
            ∙ ap (λ x. oddly_lit B l S a && x) (sym (ap (λ x. outlet B l v && x) p ∙ and-true (outlet B l v)))
        each v false p =
            ap (λ y. (outlet B l v && oddly_lit B l S (label l v)) && y) p
            ∙ and-false (outlet B l v && oddly_lit B l S (label l v))
            ∙ sym (ap (λ y. oddly_lit B l S a && (outlet B l v && y)) p ∙ ap (λ x. oddly_lit B l S a && x) (and-false (outlet B l v)) ∙ and-false (oddly_lit B l S a))

    pub ends_lit : (a : ℕ) → oddly_lit B l (odd_ends B l S) a
        ≡ oddly_lit B l S a ⊕ (oddly_lit B l S a && odd_up_to B.vertices (λ v. outlet B l v && within l a v))
    unfolding odd_ends oddly_lit
    ends_lit a =
        odd_cong B.vertices (λ v. (S v ⊕ (outlet B l v && oddly_lit B l S (label l v))) && within l a v)
        (λ v. (S v && within l a v) ⊕ ((outlet B l v && oddly_lit B l S (label l v)) && within l a v))
        (λ v h. xor_and (S v) (outlet B l v && oddly_lit B l S (label l v)) (within l a v))
        ∙ odd_xor B.vertices (λ v. S v && within l a v) (λ v. (outlet B l v && oddly_lit B l S (label l v)) && within l a v)
        ∙ ap (λ t. oddly_lit B l S a ⊕ t) (added a)

    -- where no part is odd, every part holds an even number of odd ends
    pub ends_even : NoneOdd B l S → EvenlyLit B l (odd_ends B l S)
    ends_even w = record { even = λ a h. ends_lit a ∙ go a h (oddly_lit B l S a) refl }
      where
        go : (a : ℕ) → a < B.vertices → (t : Bool) → oddly_lit B l S a ≡ t
            → oddly_lit B l S a ⊕ (oddly_lit B l S a && odd_up_to B.vertices (λ v. outlet B l v && within l a v)) ≡ false
        go a h true p = rw (p, one_outlet a (even_open B l S a (w.even a h) p))
        go a h false p = rw p

-- they rest on the labels below the vertex count
pub ends_labelled : (B : Board) (l l' : List ℕ) (S : Set) → ((v : ℕ) → v < B.vertices → label l v ≡ label l' v) → (v : ℕ) → v < B.vertices
    → odd_ends B l S v ≡ odd_ends B l' S v
unfolding odd_ends oddly_lit
ends_labelled B l l' S same v h =
    ap₂ (λ x y. S v ⊕ ((is_open B v && not x) && y))
    (some_cong v (open_in B l (label l v)) (open_in B l' (label l' v))
    (λ u k. ap₂ (λ x y. is_open B u && eqb x y) (same u (omega arith)) (same v h)))
    (odd_cong B.vertices (λ u. S u && within l (label l v) u) (λ u. S u && within l' (label l' v) u)
    (λ u k. ap₂ (λ x y. S u && eqb x y) (same u k) (same v h)))

-- the correction lies in the forest
pub correction_in_forest : (B : Board) (F S : Set) → Within B (correction B F S) (forest B F)
unfolding correction
correction_in_forest B F S = spanned_in_forest B F _

module _ (B : Board) (r : Inside B) (F S : Set) where
  -- the bytes of the odd ends stand for them
  same_ends : (v : ℕ) → v < B.vertices → ones (bytes B.vertices (odd_ends B (labels B F) S)) v ≡ odd_ends B (labels B F) S v
  same_ends = ones_bytes B.vertices (odd_ends B (labels B F) S)

  -- any subset of the forest with these odd ends is the correction
  pub correction_unique : (D : Set) → Within B D (forest B F) → HasOddEnds B D (odd_ends B (labels B F) S) → (e : ℕ) → e < edges B
      → D e ≡ correction B F S e
  unfolding correction
  correction_unique D sub has = spanned_unique B r F D _ sub (record { at = λ v h. has.at v h ∙ sym (same_ends v h) })

  module _ (even : NoneOdd B (labels B F) S) where
    -- where no part is odd, the correction has them
    pub correction_ends : HasOddEnds B (correction B F S) (odd_ends B (labels B F) S)
    unfolding correction oddly_lit
    correction_ends =
        record {
          at = λ v h. (spanned_has_ends B r F _
              (record {
                even = λ a k.
                    odd_cong B.vertices (λ v. ones (bytes B.vertices (odd_ends B (labels B F) S)) v && within (labels B F) a v)
                    (λ v. odd_ends B (labels B F) S v && within (labels B F) a v)
                    (λ v h. ap (λ t. t && within (labels B F) a v) (same_ends v h))
                    ∙ (ends_even B (labels B F) S even).even a k;
              })).at v h ∙ same_ends v h;
        }

    -- and it has the syndrome, if no open vertex is in that
    pub correction_has_syndrome : Unlit B S → HasSyndrome B (correction B F S) S
    unfolding odd_ends
    correction_has_syndrome unlit = record { at = λ v h. go v h (is_open B v) refl }
      where
        go : (v : ℕ) → v < B.vertices → (t : Bool) → is_open B v ≡ t → syndrome B (correction B F S) v ≡ S v
        go v h true p = open_syndrome B (correction B F S) v p ∙ sym (unlit v h p)
        go v h false p =
            shut_syndrome B (correction B F S) v p
            ∙ correction_ends.at v h
            ∙ ap (λ o. S v ⊕ ((o && not (some_up_to v (λ u. is_open B u && within (labels B F) (label (labels B F) v) u))) && oddly_lit B (labels B F) S (label (labels B F) v))) p
            ∙ xor_false (S v)
