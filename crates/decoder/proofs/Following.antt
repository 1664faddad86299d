-- The vertices of the odd clusters that grow next are those that the policy names. Assumes nothing.
use Prim.Native.Nat.{ℕ, suc, ◌≤◌, ◌<◌}
use mathlib.Core.Path.{◌≡◌, refl, sym, ap, ◌∙◌}
use mathlib.Core.Bool.{Bool, true, false, cond, not, ◌&&◌}
use mathlib.Core.List.{List}
use mathlib.Core.Option.{Option, none, some}
use native.Mathlib.Nat.{le_refl}
use native.Mathlib.Omega.{arith}
use borrow.Author.Tests.{ne_eqb, eq-eqb, lt-ltb, le-ltb, ltb-true, ltb-false}
use lib.Dec.{eqb, ltb}
use Rattle.std.specs.Prelude.{Some, None}
use Rattle.model.specs.Sums.{Set, some_up_to}
use Rattle.model.specs.Board.{Board, Inside, vertex_limit}
use Rattle.model.specs.Components.{label, within}
use Rattle.model.specs.Growth.{full, clusters, odd, in_odd, choice, weighted}
use Rattle.model.specs.Rounds.{all_odd}
use Rattle.model.proofs.SumLaws.{some_here, none_some}
use Rattle.theory.proofs.Components.{part_below}
use Rattle.theory.proofs.GrowthRun.{OddPart}
use Rattle.theory.proofs.WeightedGrowth.{odd_named, choice_odd}
use Rattle.union_find.specs.Trees.{at}
use Rattle.decoder.specs.declared.growing.Growth.{Growth}
use Rattle.decoder.specs.declared.growing.Growth.TheVariants.{Weighted, Rounds}
use Rattle.decoder.specs.Figures.{odd_figure, Figured}
use Rattle.decoder.specs.Choices.{least_up_to}
use Rattle.decoder.specs.Raising.{growers}
use Rattle.decoder.specs.Growing.{policy_of, Follows, FollowsAll}
use Rattle.decoder.proofs.ChoiceLaws.{least_below, least_holds, none_least, odd_kept, figures_choose}

-- Names from one to another

-- from a to before a + 1 there is a alone
one_grows : (name : ℕ → ℕ) (figure : List ℕ) (a : ℕ) → odd_figure figure a ≡ true → (v : ℕ)
    → growers name figure a (suc a) v ≡ eqb (name v) a
one_grows name figure a p v = go (ltb (name v) a) refl (ltb (name v) (suc a)) refl
  where
    go : (t : Bool) → ltb (name v) a ≡ t → (u : Bool) → ltb (name v) (suc a) ≡ u
        → (not t && (u && odd_figure figure (name v))) ≡ eqb (name v) a
    go true q u r = sym (ne_eqb (name v) a (λ e. omega (arith, ltb-true (name v) a q)))
    go false q false r = sym (ne_eqb (name v) a (λ e. omega (arith, ltb-false (name v) (suc a) r)))
    go false q true r =
        let here : name v ≡ a = omega (arith, ltb-false (name v) a q, ltb-true (name v) (suc a) r) in
        ap (odd_figure figure) here ∙ p ∙ sym (eq-eqb (name v) a here)

-- from 0 to before n there are all names below n
all_grow : (name : ℕ → ℕ) (figure : List ℕ) (n v : ℕ) → name v < n → growers name figure 0 n v ≡ odd_figure figure (name v)
all_grow name figure n v h = rw (le-ltb (name v) 0 (omega arith), lt-ltb (name v) n h)

-- Which these are

module _ (B : Board) (S : Set) (s figure : List ℕ) (few : B.vertices ≤ vertex_limit) (inside : Inside B) (w : Figured B S s (clusters B s) figure) where
  abbrev n : ℕ
  n = B.vertices

  abbrev l : List ℕ
  l = clusters B s

  abbrev R : Set
  R = in_odd B l S

  abbrev least : Option ℕ
  least = least_up_to n (odd_figure figure) (at figure)

  label_inside : (v : ℕ) → v < n → label l v < n
  unfolding clusters
  label_inside v h = part_below B (full s) v h

  odd_label : (v : ℕ) → v < n → odd_figure figure (label l v) ≡ R v
  odd_label v h = odd_kept B S s figure few inside w (label l v) (label_inside v h)

  -- No cluster is odd

  module _ (q : least ≡ none) where
    weighted_over : weighted B S s ≡ none
    unfolding weighted
    weighted_over = let none-chosen = sym (figures_choose B S s figure few inside w) ∙ q in rw none-chosen

    none_odd : (v : ℕ) → v < n → R v ≡ false
    none_odd v h = sym (odd_label v h) ∙ none_least n (odd_figure figure) (at figure) q (label l v) (label_inside v h)

    rounds_over : all_odd B S s ≡ none
    unfolding all_odd
    rounds_over = ap (λ t. cond t (some R) none) (none_some n R none_odd)

    policy_over : (x : Growth) → policy_of x B S s ≡ none
    policy_over Weighted = weighted_over
    policy_over Rounds = rounds_over

  -- a is chosen

  module _ (a : ℕ) (q : least ≡ some a) where
    below : a < n
    below = least_below n (odd_figure figure) (at figure) a q

    chosen_is : choice B s l S ≡ some a
    chosen_is = sym (figures_choose B S s figure few inside w) ∙ q

    named_next : weighted B S s ≡ some (within l a)
    unfolding weighted
    named_next = rw chosen_is

    chosen_grows : Follows weighted B S s figure (record { start = a; end = suc a })
    chosen_grows =
        record {
          ordered = omega arith;
          inside = omega (arith, below);
          named = within l a;
          is = named_next;
          grow = λ v h. one_grows (label l) figure a (least_holds n (odd_figure figure) (at figure) a q) v;
        }

    -- the chosen cluster is odd, so there is a round
    some_odd : some_up_to n R ≡ true
    unfolding clusters
    some_odd =
        let part : OddPart B l S a = choice_odd B s l S a chosen_is in
        some_here n a R part.below (ap (odd B l S) (odd_named B (full s) S inside a part) ∙ part.is_odd)

    round_next : all_odd B S s ≡ some R
    unfolding all_odd
    round_next = ap (λ t. cond t (some R) none) some_odd

    round_grows : Follows all_odd B S s figure (record { start = 0; end = n })
    round_grows =
        record {
          ordered = omega (arith, below);
          inside = le_refl _;
          named = R;
          is = round_next;
          grow = λ v h. all_grow (label l) figure n v (label_inside v h) ∙ odd_label v h;
        }

-- Whatever board it is

module _ (n : ℕ) (figure : List ℕ) (few : n ≤ vertex_limit) where
  abbrev best : Option ℕ
  best = least_up_to n (odd_figure figure) (at figure)

  pub follows_none : (x : Growth) → best ≡ none → FollowsAll (policy_of x) n figure None
  follows_none x q = record { each = λ B S s is r w. policy_over B S s figure (rw is few) r w (rw is q) x }

  pub follows_chosen : (a : ℕ) → best ≡ some a → FollowsAll weighted n figure (Some (record { start = a; end = suc a }))
  follows_chosen a q = record { each = λ B S s is r w. chosen_grows B S s figure (rw is few) r w a (rw is q) }

  pub follows_odd : (a : ℕ) → best ≡ some a → FollowsAll all_odd n figure (Some (record { start = 0; end = n }))
  follows_odd a q = record { each = λ B S s is r w. rw (← is) (round_grows B S s figure (rw is few) r w a (rw is q)) }
