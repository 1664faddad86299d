-- From the kept figures to document 01's choice: the figures below 2,048 are the boundary sizes of the odd clusters, and the first of the least
-- is the cluster that grows. Assumes nothing.
use Prim.Native.Nat.{ℕ, zero, suc, ◌%◌, ◌≤◌, ◌<◌}
use mathlib.Core.Path.{◌≡◌, refl, sym, ◌∙◌}
use mathlib.Core.Bool.{Bool, true, false, cond, ◌&&◌, and-false}
use mathlib.Core.List.{List}
use mathlib.Core.Option.{Option, none, some}
use native.Mathlib.Decide.{ℕ_discrete}
use native.Mathlib.Nat.{le_refl, not-suc-le-zero}
use native.Mathlib.Omega.{arith}
use borrow.Author.Tests.{lt-ltb, le-ltb}
use lib.Dec.{ltb}
use Rattle.std.proofs.lemmas.Bool.{false_from_ne_true}
use Rattle.model.specs.Sums.{Set}
use Rattle.model.specs.Board.{Board, Inside, vertex_limit}
use Rattle.model.specs.Components.{label, within}
use Rattle.model.specs.Growth.{full, clusters, oddly_lit, holds_open, odd, exposed, boundary, better, choice_up_to, choice}
use Rattle.model.proofs.Contradiction.{zero_one}
use Rattle.model.proofs.SumLaws.{below_suc, count_bound}
use Rattle.theory.proofs.WeightedGrowth.{odd_named}
use Rattle.union_find.specs.Trees.{at}
use Rattle.decoder.specs.Figures.{even_mark, odd_figure, Leads, Figured}
use Rattle.decoder.specs.Choices.{lesser, least_up_to}
use Rattle.decoder.proofs.FigureLaws.{figure_odd, figure_size, figure_is_size}

-- The first of the least

-- what is chosen below k is below k, and in f
abbrev Fit : ℕ → Set → Option ℕ → Type 0
Fit k f none = Unit {0}
Fit k f (some c) = (c < k) × (f c ≡ true)

least_fit : (k : ℕ) (f : Set) (x : ℕ → ℕ) → Fit k f (least_up_to k f x)
unfolding least_up_to
least_fit zero f x = tt
least_fit (suc k) f x = go (least_up_to k f x) (least_fit k f x) (f k) refl
  where
    either : (t : Bool) (c : ℕ) → f k ≡ true → (c < suc k) × (f c ≡ true) → Fit (suc k) f (cond t (some k) (some c))
    either true c p h = (le_refl _, p)
    either false c p h = h

    go : (o : Option ℕ) → Fit k f o → (t : Bool) → f k ≡ t → Fit (suc k) f (lesser f x k o)
    go none h true p = rw p (le_refl _, p)
    go none h false p = rw p tt
    go (some c) h true p = rw p (either (ltb (x k) (x c)) c p (omega (arith, h.0), h.1))
    go (some c) h false p = rw p (omega (arith, h.0), h.1)

pub least_below : (k : ℕ) (f : Set) (x : ℕ → ℕ) (c : ℕ) → least_up_to k f x ≡ some c → c < k
least_below k f x c p = (rw p at (least_fit k f x)).0

pub least_holds : (k : ℕ) (f : Set) (x : ℕ → ℕ) (c : ℕ) → least_up_to k f x ≡ some c → f c ≡ true
least_holds k f x c p = (rw p at (least_fit k f x)).1

-- where none is chosen, none is in f
pub none_least : (k : ℕ) (f : Set) (x : ℕ → ℕ) → least_up_to k f x ≡ none → (a : ℕ) → a < k → f a ≡ false
unfolding least_up_to
none_least zero f x p a h = absurd (not-suc-le-zero h)
none_least (suc k) f x p a h = go (least_up_to k f x) (λ q. none_least k f x q a) (f k) refl p
  where
    never : (t : Bool) (c : ℕ) → cond t (some k) (some c) ≡ none → ⊥
    never true c q = zero_one (cc)
    never false c q = zero_one (cc)

    go : (o : Option ℕ) → (o ≡ none → a < k → f a ≡ false) → (t : Bool) → f k ≡ t → lesser f x k o ≡ none → f a ≡ false
    go none each false r q = below_suc k a h (each refl) (λ e. rw e r)
    go none each true r q = zero_one (cc)
    go (some c) each t r q = absurd (never (f k && ltb (x k) (x c)) c q)

-- nothing is in f
pub least_none : (k : ℕ) (f : Set) (x : ℕ → ℕ) → ((a : ℕ) → a < k → f a ≡ false) → least_up_to k f x ≡ none
unfolding least_up_to
least_none zero f x h = refl
least_none (suc k) f x h = rw (least_none k f x (λ a l. h a (omega arith)), h k (le_refl _))

-- c is in f, it has a smaller size than any before it, and none has a smaller one
pub least_first : (k : ℕ) (f : Set) (x : ℕ → ℕ) (c : ℕ) → c < k → f c ≡ true → ((a : ℕ) → a < c → x c < x a) → ((a : ℕ) → a < k → x c ≤ x a)
    → least_up_to k f x ≡ some c
unfolding least_up_to
least_first zero f x c l is h g = absurd (omega arith)
least_first (suc k) f x c l is h g = elim (ℕ_discrete c k) [
  | yes p ↦ rw p (rw p at (taken (least_up_to k f x) (λ d q. h d (omega (arith, p, least_below k f x d q)))))
  | no p ↦ rw (least_first k f x c (omega (arith, p)) is h (λ a m. g a (omega arith)), le-ltb (x k) (x c) (g k (le_refl _)), and-false)
]
  where
    taken : (o : Option ℕ) → ((d : ℕ) → o ≡ some d → x c < x d) → lesser f x c o ≡ some c
    taken none q = rw is
    taken (some d) q = rw (is, lt-ltb (x c) (x d) (q d refl))

-- only the sizes of what is in f matter
least_cong : (k : ℕ) (f g : Set) (x y : ℕ → ℕ) → ((a : ℕ) → a < k → f a ≡ g a) → ((a : ℕ) → a < k → g a ≡ true → x a ≡ y a)
    → least_up_to k f x ≡ least_up_to k g y
unfolding least_up_to
least_cong zero f g x y p q = refl
least_cong (suc k) f g x y p q =
    rw (least_cong k f g x y (λ a h. p a (omega arith)) (λ a h. q a (omega arith))) (go (least_up_to k g y) (least_fit k g y) (g k) refl)
  where
    go : (o : Option ℕ) → Fit k g o → (t : Bool) → g k ≡ t → lesser f x k o ≡ lesser g y k o
    go none h t r = rw (p k (le_refl _))
    go (some c) h true r = rw (p k (le_refl _), q k (le_refl _) r, q c (omega (arith, h.0)) h.1)
    go (some c) h false r = rw (p k (le_refl _), r)

-- the first of the least is the cluster that document 01 chooses
least_choice : (B : Board) (s l : List ℕ) (S : Set) (k : ℕ) → least_up_to k (odd B l S) (boundary B s l) ≡ choice_up_to B s l S k
unfolding least_up_to choice_up_to
least_choice B s l S zero = refl
least_choice B s l S (suc a) = rw (least_choice B s l S a) (go (choice_up_to B s l S a))
  where
    go : (o : Option ℕ) → lesser (odd B l S) (boundary B s l) a o ≡ better B s l S a o
    go none = refl
    go (some c) = refl

-- What the figures say

module _ (B : Board) (S : Set) (s l figure : List ℕ) (few : B.vertices ≤ vertex_limit) (w : Figured B S s l figure) where
  boundary_small : (a : ℕ) → boundary B s l a < even_mark
  unfolding boundary
  boundary_small a = omega (arith, count_bound B.vertices (λ v. within l a v && exposed B s v))

  -- K6: with each cluster its boundary size is kept
  pub kept_boundary : (a : ℕ) → Leads B.vertices l a → at figure a % even_mark ≡ boundary B s l a
  kept_boundary a lead = rw (w.kept.named a lead) (figure_size (boundary B s l a) (boundary_small a) (oddly_lit B l S a) (holds_open B l a))

  -- .. and whether it is odd
  pub kept_odd : (a : ℕ) → Leads B.vertices l a → odd_figure figure a ≡ odd B l S a
  unfolding odd
  kept_odd a lead = rw (w.kept.named a lead) (figure_odd (boundary B s l a) (boundary_small a) (oddly_lit B l S a) (holds_open B l a))

  -- the figure of an odd cluster is its boundary size
  odd_size : (a : ℕ) → Leads B.vertices l a → odd B l S a ≡ true → at figure a ≡ boundary B s l a
  unfolding odd
  odd_size a lead p = w.kept.named a lead ∙ figure_is_size (boundary B s l a) (oddly_lit B l S a) (holds_open B l a) p

module _ (B : Board) (S : Set) (s figure : List ℕ) (few : B.vertices ≤ vertex_limit) (r : Inside B) (w : Figured B S s (clusters B s) figure) where
  abbrev own : List ℕ
  own = clusters B s

  leads_odd : (a : ℕ) → a < B.vertices → odd B own S a ≡ true → Leads B.vertices own a
  unfolding clusters
  leads_odd a h p = record { below = h; own = odd_named B (full s) S r a (record { below = h; is_odd = p }) }

  -- a figure below 2,048 is that of an odd cluster
  pub odd_kept : (a : ℕ) → a < B.vertices → odd_figure figure a ≡ odd B own S a
  odd_kept a h = elim (ℕ_discrete (label own a) a) [
    | yes q ↦ kept_odd B S s own figure few w a (record { below = h; own = q })
    | no q ↦
        le-ltb (at figure a) even_mark (omega (arith, w.kept.others a (omega arith) (λ lead. q lead.own)))
        ∙ sym (false_from_ne_true (odd B own S a) (λ p. q (leads_odd a h p).own))
  ]

  pub figures_choose : least_up_to B.vertices (odd_figure figure) (at figure) ≡ choice B s own S
  unfolding choice
  figures_choose =
      least_cong B.vertices (odd_figure figure) (odd B own S) (at figure) (boundary B s own) odd_kept
      (λ a h p. odd_size B S s own figure few w a (leads_odd a h p) p)
      ∙ least_choice B s own S B.vertices
