-- Going on from vertex to vertex: what is passed, how often, and how long that takes. Assumes nothing.
use Prim.Native.Nat.{ℕ, zero, suc, ◌+◌, ◌≤◌}
use mathlib.Core.Path.{◌≡◌, refl, sym, ap, ◌∙◌, subst}
use mathlib.Core.Logic.{◌≢◌}
use mathlib.Core.List.{List, [], ◌∷◌, ◌++◌}
use native.Mathlib.Omega.{arith}
use borrow.Author.Tests.{eq-eqb, ne_eqb, lt-ltb, le-ltb}
use lib.ListN.{length}
use lib.Dec.{eqb, ltb}
use Rattle.model.specs.Sums.{bit, count_up_to}
use Rattle.model.proofs.SumLaws.{count_bound, count_none}
use Rattle.model.proofs.CountLaws.{count_more}
use Rattle.union_find.specs.Trees.{at}
use Rattle.decoder.specs.Rings.{Passes, times, Distinct, way}

-- How often a vertex is passed

pub times_here : (v : ℕ) (l : List ℕ) → times v (v ∷ l) ≡ suc (times v l)
unfolding times
times_here v l = rw (eq-eqb v v refl) (omega arith)

pub times_other : (u v : ℕ) (l : List ℕ) → u ≢ v → times u (v ∷ l) ≡ times u l
unfolding times
times_other u v l q = rw (ne_eqb u v q) (omega arith)

pub times_cons : (u v : ℕ) (l : List ℕ) → times u (v ∷ l) ≡ bit (eqb u v) + times u l
unfolding times
times_cons u v l = refl

pub times_none : (u : ℕ) → times u [] ≡ 0
unfolding times
times_none u = refl

pub times_append : (v : ℕ) (l k : List ℕ) → times v (l ++ k) ≡ times v l + times v k
unfolding times
times_append v [] k = omega arith
times_append v (u ∷ l) k = omega (arith, times_append v l k)

pub times_last : (u v : ℕ) (l : List ℕ) → times u (l ++ (v ∷ [])) ≡ times u l + bit (eqb u v)
times_last u v l = times_append u l (v ∷ []) ∙ omega (arith, times_cons u v [], times_none u)

-- Ways put together

pub passes_append : (ring : List ℕ) (x y z : ℕ) (l k : List ℕ) → Passes ring x l y → Passes ring y k z → Passes ring x (l ++ k) z
unfolding Passes
passes_append ring x y z [] k p q = rw p q
passes_append ring x y z (v ∷ l) k p q = (p.0, passes_append ring (at ring v) y z l k p.1 q)

-- one more
pub passes_on : (ring : List ℕ) (x y z : ℕ) (l : List ℕ) → Passes ring x l y → at ring y ≡ z → Passes ring x (l ++ (y ∷ [])) z
unfolding Passes
passes_on ring x y z l p q = passes_append ring x y z l (y ∷ []) p (refl, q)

-- only the entries of what is passed matter
pub passes_same : (ring ring' : List ℕ) (x y : ℕ) (l : List ℕ) → ((v : ℕ) → 1 ≤ times v l → at ring' v ≡ at ring v) → Passes ring x l y → Passes ring' x l y
unfolding Passes
passes_same ring ring' x y [] same p = p
passes_same ring ring' x y (v ∷ l) same p = (
  p.0,
  rw (same v (omega (arith, times_here v l)))
      (passes_same ring ring' (at ring v) y l (λ u h. same u (omega (arith, times_cons u v l))) p.1),
)

-- One step

-- where something is left to pass, it begins with the vertex that one is at
pub record Step (ring : List ℕ) (x : ℕ) (l : List ℕ) (y : ℕ) : Type 0 where
  pub rest : List ℕ
  pub is : l ≡ x ∷ rest
  pub goes : Passes ring (at ring x) rest y

pub step : (ring : List ℕ) (x y : ℕ) (l : List ℕ) → x ≢ y → Passes ring x l y → Step ring x l y
unfolding Passes
step ring x y [] differ p = absurd (differ p)
step ring x y (v ∷ l) differ p =
    record { rest = l; is = ap (λ u. u ∷ l) (sym p.0); goes = subst (λ u. Passes ring (at ring u) l y) (sym p.0) p.1 }

-- .. so it does in a round
pub step_round : (ring : List ℕ) (a : ℕ) (l : List ℕ) → 1 ≤ times a l → Passes ring a l a → Step ring a l a
unfolding Passes
step_round ring a [] some p = absurd (suc_not (omega (arith, times_none a)))
  where
    suc_not : 1 ≤ 0 → ⊥
    suc_not h = omega (arith, h)
step_round ring a (v ∷ l) some p =
    record { rest = l; is = ap (λ u. u ∷ l) (sym p.0); goes = subst (λ u. Passes ring (at ring u) l a) (sym p.0) p.1 }

-- nothing is left where one has come
pub came : (ring : List ℕ) (x y : ℕ) (l : List ℕ) → x ≡ y → times y l ≡ 0 → Passes ring x l y → l ≡ []
unfolding Passes
came ring x y [] q none p = refl
came ring x y (v ∷ l) q none p = absurd (no (times y l) (sym none ∙ rw (← p.0, q) (times_here y l)))
  where
    no : (k : ℕ) → 0 ≡ suc k → ⊥
    no k h = omega (arith, h)

-- How long it takes

pub way_is : (fuel : ℕ) (ring : List ℕ) (x y : ℕ) (l : List ℕ) → Passes ring x l y → times y l ≡ 0 → length l ≤ fuel → way fuel ring x y ≡ l
unfolding Passes way
way_is zero ring x y [] p none h = refl
way_is (suc fuel) ring x y [] p none h = rw (eq-eqb x y p)
way_is zero ring x y (v ∷ l) p none h = absurd (no h)
  where
    no : suc (length l) ≤ 0 → ⊥
    no z = omega (arith, z)
way_is (suc fuel) ring x y (v ∷ l) p none h =
    let differ : x ≢ y = λ q. no (times y l) (sym none ∙ rw (← p.0, q) (times_here y l)) in
    rw (ne_eqb x y differ)
    (ap (λ k. x ∷ k) (rw p.0 (way_is fuel ring (at ring v) y l p.1 (omega (arith, times_cons y v l)) (omega (arith, h))))
    ∙ ap (λ u. u ∷ l) p.0)
  where
    no : (k : ℕ) → 0 ≡ suc k → ⊥
    no k z = omega (arith, z)

-- the vertices of a list without repetition, counted
counted_length : (n : ℕ) (l : List ℕ) → Distinct n l → count_up_to n (λ v. ltb 0 (times v l)) ≡ length l
counted_length n [] d = count_none n (λ v. ltb 0 (times v [])) (λ v h. le-ltb 0 (times v []) (omega (arith, times_none v)))
counted_length n (u ∷ l) d =
    let out : times u l ≡ 0 = omega (arith, d.once u, times_here u l) in
    count_more n u (λ v. ltb 0 (times v l)) (λ v. ltb 0 (times v (u ∷ l)))
    (d.inside u (omega (arith, times_here u l)))
    (le-ltb 0 (times u l) (omega (arith, out)))
    (lt-ltb 0 (times u (u ∷ l)) (omega (arith, times_here u l)))
    (λ v q. ap (ltb 0) (times_other v u l q))
    ∙ ap suc
    (counted_length n l
    record { once = λ v. omega (arith, d.once v, times_cons v u l); inside = λ v h. d.inside v (omega (arith, times_cons v u l)) })

pub distinct_short : (n : ℕ) (l : List ℕ) → Distinct n l → length l ≤ n
distinct_short n l d = omega (arith, counted_length n l d, count_bound n (λ v. ltb 0 (times v l)))
