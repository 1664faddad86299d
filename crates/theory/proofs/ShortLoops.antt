-- From a walk to a set: the edges that a walk passes an odd number of times are at most as many as the walk is long, touch only its two
-- ends an odd number of times, and cross each line as often as the walk does, modulo 2. So a closed walk that crosses a line an odd
-- number of times gives a winding loop that is no larger, and where every winding loop is large every short closed walk is unmarked.
-- Assumes nothing.
use Prim.Native.Nat.{ℕ, ◌≤◌, ◌<◌}
use mathlib.Core.Path.{◌≡◌, refl, sym, ap, ap₂, ◌∙◌}
use mathlib.Core.Bool.{true, false, ◌&&◌, and_comm}
use mathlib.Core.List.{List, [], ◌∷◌}
use native.Mathlib.Omega.{arith}
use lib.ListN.{length}
use lib.Dec.{eqb}
use Rattle.std.proofs.lemmas.Bool.{false_from_ne_true}
use Rattle.model.specs.Sums.{Set, ◌⊕◌, odd_up_to}
use Rattle.model.specs.Board.{Board, edges, first_end, second_end}
use Rattle.model.specs.Syndrome.{meets, odd_end}
use Rattle.model.specs.Winding.{winds, size}
use Rattle.model.specs.Demand3.{EveryLoopAbove}
use Rattle.model.proofs.Xor.{xor_and, xor_self, xor_comm}
use Rattle.model.proofs.SumLaws.{odd_cong, odd_false, odd_xor, odd_at, count_none}
use Rattle.theory.proofs.Totals.{xor_through, count_xor, count_at}
use Rattle.theory.proofs.Syndromes.{even_closed}
use Rattle.theory.proofs.CrossedLines.{Line, crosses, crosses_oddly, Closed, marked_winds}
use Rattle.theory.proofs.Walks.{Along, forth, back, Walk, stop, step, odd_along, walk_crosses, passed_oddly}

-- the parity of f over the walk's odd edges is its parity along the walk
pub passed_parity : {B : Board} {u v : ℕ} {l : List ℕ} → Walk B u l v
    → (f : Set) → odd_up_to (edges B) (λ i. passed_oddly l i && f i) ≡ odd_along f l
passed_parity {B} stop f = odd_false (edges B)
passed_parity {B} (step {e = e} {l = l} h a p) f =
    odd_cong (edges B) (λ i. (eqb e i ⊕ passed_oddly l i) && f i) (λ i. (f i && eqb e i) ⊕ (passed_oddly l i && f i))
    (λ i r. xor_and (eqb e i) (passed_oddly l i) (f i) ∙ ap (λ b. b ⊕ (passed_oddly l i && f i)) (and_comm (eqb e i) (f i)))
    ∙ odd_xor (edges B) (λ i. f i && eqb e i) (λ i. passed_oddly l i && f i)
    ∙ ap₂ ◌⊕◌ (odd_at (edges B) e f h) (passed_parity p f)

-- what edge e adds between its ends, whichever way it is passed
pub along_differs : {B : Board} {e u v : ℕ} → Along B e u v → (f : Set) → f (first_end B e) ⊕ f (second_end B e) ≡ f u ⊕ f v
along_differs (forth p q) f = ap₂ (λ a b. f a ⊕ f b) p q
along_differs {B} {e} (back p q) f = xor_comm (f (first_end B e)) (f (second_end B e)) ∙ ap₂ (λ a b. f a ⊕ f b) p q

-- added up along a walk, the differences of f leave that of its two ends
pub walk_differs : {B : Board} {u v : ℕ} {l : List ℕ} → Walk B u l v
    → (f : Set) → odd_along (λ e. f (first_end B e) ⊕ f (second_end B e)) l ≡ f u ⊕ f v
walk_differs {u = u} stop f = sym (xor_self (f u))
walk_differs {v = w} (step {u = u} {v = v} h a p) f = ap₂ ◌⊕◌ (along_differs a f) (walk_differs p f) ∙ xor_through (f u) (f v) (f w)

-- the odd edges of a walk touch an odd number of times its two ends alone
pub passed_ends : {B : Board} {u v : ℕ} {l : List ℕ} → Walk B u l v → (w : ℕ) → odd_end B (passed_oddly l) w ≡ eqb u w ⊕ eqb v w
unfolding odd_end
passed_ends {B} p w = passed_parity p (λ e. meets B e w) ∙ walk_differs p (λ u. eqb u w)

pub passed_closed : {B : Board} {u : ℕ} {l : List ℕ} → Walk B u l u → Closed B (passed_oddly l)
passed_closed {B} {u} {l} p = even_closed B (passed_oddly l) (record { at = λ v h. passed_ends p v ∙ xor_self (eqb u v) })

-- they are at most as many as the walk is long
pub passed_size : (B : Board) (l : List ℕ) → size B (passed_oddly l) ≤ length l
passed_size B [] = omega (arith, count_none (edges B) (λ i. false) (λ i h. refl))
passed_size B (e ∷ l) = omega (arith, count_xor (edges B) (λ i. eqb e i) (passed_oddly l), count_at (edges B) e, passed_size B l)

-- they cross each line as the walk does
pub passed_crosses : {B : Board} {u v : ℕ} {l : List ℕ} → Walk B u l v → (x : Line) → crosses_oddly B x (passed_oddly l) ≡ walk_crosses B x l
unfolding crosses_oddly
passed_crosses {B} p x = passed_parity p (crosses B x)

-- A closed walk that crosses a line an odd number of times gives a winding loop.
pub walk_winds : {B : Board} {u : ℕ} {l : List ℕ} → Walk B u l u → (x : Line) → walk_crosses B x l ≡ true → winds B (passed_oddly l) ≡ true
walk_winds {B} {l = l} p x c = marked_winds B (passed_oddly l) x (passed_closed p) (passed_crosses p x ∙ c)

-- every closed walk of at most k edges crosses each line an even number of times
pub record ShortWalksUnmarked (B : Board) (k : ℕ) : Type 0 where
  pub unmarked : (u : ℕ) (l : List ℕ) → u < B.vertices → Walk B u l u → length l ≤ k → (x : Line) → walk_crosses B x l ≡ false

-- So it is where every winding loop has more than k edges.
pub loops_above_walks : (B : Board) (k : ℕ) → EveryLoopAbove B k → ShortWalksUnmarked B k
loops_above_walks B k r =
    record {
      unmarked = λ u l h p few x.
          false_from_ne_true (walk_crosses B x l) (λ c. omega (arith, passed_size B l, r.above (passed_oddly l) (walk_winds p x c)));
    }
