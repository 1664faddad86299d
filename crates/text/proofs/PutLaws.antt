-- Bytes put one after the other. Assumes nothing.
use Prim.Native.Nat.{ℕ, zero, suc, ◌+◌, ◌*◌, ◌≤◌, ◌<◌}
use mathlib.Core.Path.{◌≡◌, refl, sym, ap, ap₂, ◌∙◌}
use mathlib.Core.List.{List, [], ◌∷◌, ◌++◌}
use mathlib.Core.Logic.{⊎_elim}
use native.Mathlib.Nat.{add-zero, le_refl, le_trans, le_of_suc-le-suc, eq-or-lt_of_le}
use native.Mathlib.Numerals.{add-one}
use native.Mathlib.Omega.{arith}
use lib.ListN.{length, get_or, set, length-append}
use lib.Arith.{le-zero}
use lib.Seq.{sets, length-sets}
use Rattle.model.specs.Sums.{Set, ones}
use Rattle.model.specs.Board.{Sheet, edges, is_open}
use Rattle.model.specs.Text.{letter_v, letter_o, letter_s, letter_x, decimal}
use Rattle.model.proofs.ListLaws.{sets_append}
use Rattle.text.specs.Printing.{Puts, number_bytes, edge_bytes, place_bytes, edges_bytes, listed_bytes, sheet_bytes}

module _ {xs l l' : List ℕ} {i j : ℕ} (first : Puts xs l i j l') where
  pub then : {ys l'' : List ℕ} {k : ℕ} → Puts ys l' j k l'' → Puts (xs ++ ys) l i k l''
  then {ys} second =
      let both = length-append xs ys in
      record {
        position = omega (arith, first.position, second.position);
        put = second.put ∙ ap₂ (λ m n. sets m n ys) first.put first.position ∙ sets_append xs ys l i;
      }

  pub long : length l' ≡ length l
  long = rw first.put (length-sets l i xs)

pub put_one : (b : ℕ) (l : List ℕ) (i : ℕ) → Puts (b ∷ []) l i (i + 1) (set l i b)
put_one b l i = record { position = refl; put = refl }

-- how long a line is
pub length_number : (letter n : ℕ) → length (number_bytes letter n) ≡ 3 + length (decimal n)
length_number letter n = rw (length-append) (omega arith)

pub length_edge : (a b m : ℕ) → length (edge_bytes a b m) ≡ 5 + length (decimal a) + length (decimal b) + length (decimal m)
length_edge a b m = simp length-append (omega arith)

pub put_none : (l : List ℕ) (i : ℕ) → Puts [] l i i l
put_none l i = record { position = sym (add-zero i); put = refl }

-- the lines of one edge more, and of one place more
pub edges_more : (ends marks : List ℕ) (e : ℕ)
    → edges_bytes ends marks (e + 1) ≡ edges_bytes ends marks e ++ edge_bytes (get_or ends (2 * e) 0) (get_or ends (2 * e + 1) 0) (get_or marks e 0)
unfolding edges_bytes
edges_more ends marks e = rw (add-one e)

pub listed_more : (letter : ℕ) (D : Set) (i : ℕ) → listed_bytes letter D (i + 1) ≡ listed_bytes letter D i ++ place_bytes letter i (D i)
unfolding listed_bytes
listed_more letter D i = rw (add-one i)

-- what rises from each number to the next rises all the way
rises : (f : ℕ → ℕ) → ((k : ℕ) → f k ≤ f (k + 1)) → (i k : ℕ) → i ≤ k → f i ≤ f k
rises f up i zero h = rw (le-zero h) (le_refl _)
rises f up i (suc k) h = ⊎_elim (λ e. rw e (le_refl _)) (λ l. further (rises f up i k (le_of_suc-le-suc l))) (eq-or-lt_of_le h)
  where
    further : f i ≤ f k → f i ≤ f (suc k)
    further w = le_trans w (rw (add-one k) at (up k))

-- there is room for the line of edge e, and of place i, in front of those that follow
module _ (ends marks : List ℕ) (k : ℕ) where
  pub edges_fit : (e : ℕ) → e < k
      → length (edges_bytes ends marks e) + length (edge_bytes (get_or ends (2 * e) 0) (get_or ends (2 * e + 1) 0) (get_or marks e 0)) ≤ length (edges_bytes ends marks k)
  edges_fit e h =
      let more = ap length (edges_more ends marks e) in
      let both = length-append (edges_bytes ends marks e) (edge_bytes (get_or ends (2 * e) 0) (get_or ends (2 * e + 1) 0) (get_or marks e 0)) in
      let all = rises (λ i. length (edges_bytes ends marks i)) up (e + 1) k (omega arith) in
      omega arith
    where
      up : (i : ℕ) → length (edges_bytes ends marks i) ≤ length (edges_bytes ends marks (i + 1))
      up i = rw (edges_more ends marks i, length-append) (omega arith)

module _ (letter : ℕ) (D : Set) (k : ℕ) where
  pub listed_fit : (i : ℕ) → i < k
      → length (listed_bytes letter D i) + length (place_bytes letter i (D i)) ≤ length (listed_bytes letter D k)
  listed_fit i h =
      let more = ap length (listed_more letter D i) in
      let both = length-append (listed_bytes letter D i) (place_bytes letter i (D i)) in
      let all = rises (λ j. length (listed_bytes letter D j)) up (i + 1) k (omega arith) in
      omega arith
    where
      up : (j : ℕ) → length (listed_bytes letter D j) ≤ length (listed_bytes letter D (j + 1))
      up j = rw (listed_more letter D j, length-append) (omega arith)

pub length_sheet : (X : Sheet)
    → length (sheet_bytes X)
    ≡ length (number_bytes letter_v X.board.vertices)
    + length (edges_bytes X.board.ends X.board.marks (edges X.board))
    + length (listed_bytes letter_o (is_open X.board) (length X.board.opened))
    + length (listed_bytes letter_s (ones X.syndrome) (length X.syndrome))
    + length (listed_bytes letter_x (ones X.loss) (length X.loss))
length_sheet X =
    let B = X.board in
    let v = number_bytes letter_v B.vertices in
    let e = edges_bytes B.ends B.marks (edges B) in
    let o = listed_bytes letter_o (is_open B) (length B.opened) in
    let s = listed_bytes letter_s (ones X.syndrome) (length X.syndrome) in
    let l = listed_bytes letter_x (ones X.loss) (length X.loss) in
    omega (arith, length-append (v ++ e ++ o ++ s) l, length-append (v ++ e ++ o) s, length-append (v ++ e) o, length-append v e)
