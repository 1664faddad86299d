-- What the walk shows when it ends. Assumes nothing.
use Prim.Native.Nat.{ℕ, suc, ◌≤◌, ◌<◌}
use mathlib.Core.Path.{◌≡◌, ap, ◌∙◌}
use mathlib.Core.Bool.{true}
use mathlib.Core.List.{List, [], ◌∷◌}
use native.Mathlib.Decide.{dec_lt}
use native.Mathlib.Omega.{arith}
use lib.ListN.{length}
use Rattle.model.specs.Board.{Board, Valid}
use Rattle.theory.proofs.CrossedLines.{Line, line_a, line_b}
use Rattle.theory.proofs.Walks.{Walk, walk_crosses}
use Rattle.distance.specs.States.{state, across}
use Rattle.distance.specs.Search.{states, Tree, Place, Near, Done, Search, NoShorter}
use Rattle.distance.proofs.StateLaws.{state_vertex, state_bound, across_bound, across_touches, across_back}
use Rattle.distance.proofs.Leading.{Leads, home_leads, Across, across_leads, closed_leads, crossing_away}

-- y was met, at a depth that k edges allow
pub record Reached (D : ℕ → ℕ) (y k : ℕ) : Type 0 where
  pub met : 1 ≤ D y
  pub depth : D y ≤ suc k

-- Where every state below depth d is done, what leads to the start by fewer than d edges was met.
pub reached :
    (B : Board) → Valid B → (s : ℕ) (D K : ℕ → ℕ) → Tree B s D K → (d : ℕ) →
    ((x : ℕ) → x < states B → 1 ≤ D x → D x < d → Done B D x) → (l : List ℕ) (y : ℕ) → length l < d → Leads B s y l →
    Reached D y (length l)
reached B valid s D K tree d below [] y h p =
    let one = ap D (home_leads p) ∙ tree.start in
    record { met = omega arith; depth = omega arith }
reached B valid s D K tree d below (e ∷ l) y h p =
    let first : Across B s y e l = across_leads p in
    let x = across B y e in
    let before : Reached D x (length l) = reached B valid s D K tree d below l x (omega arith) first.rest in
    let done : Done B D x = below x (across_bound B valid y e first.edge) before.met (omega (arith, before.depth)) in
    let near : Near B D x e = done.near e first.edge (across_touches B y e) in
    let back = ap D (across_back B y e first.touch) in
    record { met = omega (arith, near.met); depth = omega (arith, near.close, before.depth) }

-- every state that is less deep than the head of the queue is done
pub shallow_done :
    {B : Board} {s : ℕ} {D K Q : ℕ → ℕ} {h t : ℕ} → Search B s D K Q h t → (d : ℕ) → (h < t → d ≤ D (Q h)) → (x : ℕ) → x < states B →
    1 ≤ D x → D x < d → Done B D x
shallow_done {B} {s} {D} {K} {Q} {h} {t} search d deep x l m less =
    elim (dec_lt p.index h) [
      | yes b ↦ rw (← p.here) (search.done p.index b)
      | no b ↦ absurd (later (omega arith))
    ]
  where
    p : Place Q t x
    p = search.queue.place x l m

    later : h ≤ p.index → ⊥
    later b =
        let some : h < t = omega (arith, p.less) in
        omega (arith, ap D p.here, deep some, search.queue.rising h p.index b p.less)

-- When the head of the queue is at depth d, no closed walk from s that crosses a line an odd number of times has fewer than d edges.
pub no_shorter :
    {B : Board} {s : ℕ} {D K Q : ℕ → ℕ} {h t : ℕ} → Valid B → s < B.vertices → Search B s D K Q h t → (d : ℕ) →
    (h < t → d ≤ D (Q h)) → NoShorter B s d
no_shorter {B} {s} {D} {K} {Q} {h} {t} valid inside search d deep =
    record { least = λ l x w c. elim (dec_lt (length l) d) [ yes b ↦ absurd (short l x w c b) | no b ↦ omega arith ] }
  where
    short : (l : List ℕ) (x : Line) → Walk B s l s → walk_crosses B x l ≡ true → length l < d → ⊥
    short l x w c b =
        let a = walk_crosses B line_a l in
        let b' = walk_crosses B line_b l in
        let met = reached B valid s D K search.tree d (shallow_done search d deep) l (state s a b') b (closed_leads w) in
        crossing_away B s l x c
        (search.away (state s a b') (state_bound B.vertices s a b' inside) met.met (state_vertex s a b'))
