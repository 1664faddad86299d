-- Walks that lead from a state back to the start, and what they are made of. Assumes nothing.
use Prim.Native.Nat.{ℕ, zero, suc, ◌*◌, ◌/◌, ◌%◌, ◌<◌}
use mathlib.Core.Path.{◌≡◌, refl, sym, ap, ap₂, ◌∙◌}
use mathlib.Core.Bool.{Bool, true, false, false≢true}
use mathlib.Core.List.{List, [], ◌∷◌}
use native.Mathlib.Omega.{arith}
use borrow.Author.Tests.{ne_eqb}
use lib.ListN.{length}
use Rattle.model.specs.Sums.{◌⊕◌}
use Rattle.model.specs.Board.{Board, Valid, edges}
use Rattle.model.specs.Syndrome.{touches}
use Rattle.model.specs.Winding.{crosses_a, crosses_b}
use Rattle.model.proofs.Contradiction.{zero_one}
use Rattle.model.proofs.Xor.{xor_comm, xor_twice}
use Rattle.theory.proofs.CrossedLines.{Line, line_a, line_b}
use Rattle.theory.proofs.Walks.{Along, forth, back, Walk, stop, step, walk_crosses}
use Rattle.distance.specs.States.{state, on_a, on_b, other_end, across}
use Rattle.distance.specs.Search.{states, home, Kept, Tree, trail}
use Rattle.distance.proofs.StateLaws.{state_vertex, state_on_a, state_on_b, state_parts, end_cases, first_touches, second_touches, other_first, other_second, across_vertex, across_on_a, across_on_b, across_bound}

-- the edges of l lead from state y to the start on copy 0
pub record Leads (B : Board) (s y : ℕ) (l : List ℕ) : Type 0 where
  pub walk : Walk B (y / 4) l s
  pub crossed_a : walk_crosses B line_a l ≡ on_a y
  pub crossed_b : walk_crosses B line_b l ≡ on_b y

-- edge e leads from each of its ends to the other
along_other : (B : Board) (e v : ℕ) → touches B e v ≡ true → Along B e v (other_end B e v)
along_other B e v t =
    end_cases B e v t
    (λ q. forth q (sym (other_first B e v q)))
    (λ q p. back q (sym (other_second B e v q)))

along_touches : {B : Board} {e u v : ℕ} → Along B e u v → touches B e u ≡ true
along_touches {B} {e} {u} (forth p q) = first_touches B e u p
along_touches {B} {e} {u} (back p q) = second_touches B e u p

other_along : {B : Board} {e u v : ℕ} → Along B e u v → other_end B e u ≡ v
other_along {B} {e} {u} (forth p q) = other_first B e u p ∙ q
other_along {B} {e} {u} (back p q) = other_second B e u p ∙ q

-- the start's state

home_vertex : (s : ℕ) → home s / 4 ≡ s
home_vertex s = omega arith

home_on_a : (s : ℕ) → on_a (home s) ≡ false
home_on_a s = ne_eqb (4 * s % 2) 1 (λ q. omega arith)

home_on_b : (s : ℕ) → on_b (home s) ≡ false
home_on_b s = ne_eqb (4 * s / 2 % 2) 1 (λ q. omega arith)

home_state : (s : ℕ) → home s ≡ state s false false
home_state s = omega arith

-- the start leads to itself
leads_home : (B : Board) (s : ℕ) → Leads B s (home s) []
leads_home B s = record { walk = rw (home_vertex s) stop; crossed_a = sym (home_on_a s); crossed_b = sym (home_on_b s) }

-- and no other state does by no edge
pub home_leads : {B : Board} {s y : ℕ} → Leads B s y [] → y ≡ home s
home_leads {B} {s} {y} p =
    sym (state_parts y) ∙ go p.walk refl ∙ ap₂ (state s) (sym p.crossed_a) (sym p.crossed_b) ∙ sym (home_state s)
  where
    go : {u v : ℕ} {l : List ℕ} → Walk B u l v → l ≡ [] → state u (on_a y) (on_b y) ≡ state v (on_a y) (on_b y)
    go stop q = refl
    go (step h a r) q = zero_one (cc)

-- one edge in front
pub leads_across : {B : Board} {s y e : ℕ} {l : List ℕ} → e < edges B → touches B e (y / 4) ≡ true → Leads B s (across B y e) l → Leads B s y (e ∷ l)
leads_across {B} {s} {y} {e} {l} h t p =
    record {
      walk = step h (along_other B e (y / 4) t) (rw (across_vertex B y e) at p.walk);
      crossed_a = ap (λ b. crosses_a B e ⊕ b) (p.crossed_a ∙ across_on_a B y e) ∙ cancel (on_a y) (crosses_a B e);
      crossed_b = ap (λ b. crosses_b B e ⊕ b) (p.crossed_b ∙ across_on_b B y e) ∙ cancel (on_b y) (crosses_b B e);
    }
  where
    cancel : (a b : Bool) → b ⊕ (a ⊕ b) ≡ a
    cancel a b = xor_comm b (a ⊕ b) ∙ xor_twice a b

-- the first edge of what leads to the start
pub record Across (B : Board) (s y e : ℕ) (l : List ℕ) : Type 0 where
  pub edge : e < edges B
  pub touch : touches B e (y / 4) ≡ true
  pub rest : Leads B s (across B y e) l

pub across_leads : {B : Board} {s y e : ℕ} {l : List ℕ} → Leads B s y (e ∷ l) → Across B s y e l
across_leads {B} {s} {y} {e} {l} p = go p.walk refl refl
  where
    cancel : (a b c : Bool) → b ⊕ c ≡ a → c ≡ a ⊕ b
    cancel a b c q = sym (xor_twice c b) ∙ ap (λ t. t ⊕ b) (xor_comm c b ∙ q)

    go : {u : ℕ} {k : List ℕ} → Walk B u k s → u ≡ y / 4 → k ≡ e ∷ l → Across B s y e l
    go stop q r = zero_one (cc)
    go (step {e = f} {v = v} {l = k} h a w) q r =
        let f≡e : f ≡ e = cc in
        let k≡l : k ≡ l = cc in
        record {
          edge = rw f≡e at h;
          touch = along_touches (rw (f≡e, q) at a);
          rest = record {
            walk = rw (across_vertex B y e, other_along (rw (f≡e, q) at a), ← k≡l) w;
            crossed_a = cancel (on_a y) (crosses_a B e) (walk_crosses B line_a l) p.crossed_a ∙ sym (across_on_a B y e);
            crossed_b = cancel (on_b y) (crosses_b B e) (walk_crosses B line_b l) p.crossed_b ∙ sym (across_on_b B y e);
          };
        }

-- The kept edges lead from every state that was met to the start, and are as many as its depth says.
pub trail_leads : {B : Board} {s : ℕ} {D K : ℕ → ℕ} → Valid B → Tree B s D K → (k y : ℕ) → y < states B → D y ≡ suc k → Leads B s y (trail B K k y)
unfolding trail
trail_leads {B} {s} valid tree zero y h q = rw (tree.root y h q) (leads_home B s)
trail_leads {B} {s} {D} {K} valid tree (suc k) y h q =
    let one : Kept B D K y = tree.kept y h (omega arith) in
    leads_across one.edge one.touch
    (trail_leads valid tree k (across B y (K y)) (across_bound B valid y (K y) one.edge) (omega arith))

pub trail_length : (B : Board) (K : ℕ → ℕ) (k y : ℕ) → length (trail B K k y) ≡ k
unfolding trail
trail_length B K zero y = refl
trail_length B K (suc k) y = ap suc (trail_length B K k (across B y (K y)))

-- a walk from the start to itself, as it leads there from the start on the copy of its marks
pub closed_leads : {B : Board} {s : ℕ} {l : List ℕ} → Walk B s l s → Leads B s (state s (walk_crosses B line_a l) (walk_crosses B line_b l)) l
closed_leads {B} {s} {l} w =
    let a = walk_crosses B line_a l in
    let b = walk_crosses B line_b l in
    record { walk = rw (state_vertex s a b) w; crossed_a = sym (state_on_a s a b); crossed_b = sym (state_on_b s a b) }

-- where it crosses a line an odd number of times, that is not copy 0
pub crossing_away :
    (B : Board) (s : ℕ) (l : List ℕ) (x : Line) → walk_crosses B x l ≡ true →
    state s (walk_crosses B line_a l) (walk_crosses B line_b l) ≡ home s → ⊥
crossing_away B s l line_a p q =
    false≢true (sym (home_on_a s) ∙ sym (ap on_a q) ∙ state_on_a s (walk_crosses B line_a l) (walk_crosses B line_b l) ∙ p)
crossing_away B s l line_b p q =
    false≢true (sym (home_on_b s) ∙ sym (ap on_b q) ∙ state_on_b s (walk_crosses B line_a l) (walk_crosses B line_b l) ∙ p)
