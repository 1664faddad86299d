-- What one line more makes of the sheet so far, and of the arrays. Assumes nothing.
use mathlib.Core.Path.{◌≡◌, refl, ap, ◌∙◌}
use mathlib.Core.Bool.{Bool, true, false, cond}
use Rattle.std.specs.Prelude.{Some, None}
use Rattle.model.specs.TextOutcomes.{Buffers}
use Rattle.model.proofs.Contradiction.{zero_one}
use Rattle.text.specs.declared.line.Line.{Line}
use Rattle.text.specs.declared.order.Sofar.{Sofar}
use Rattle.text.specs.Order.{meant, may_stand}
use Rattle.text.specs.Scratch.{stored, edges_with, Stores}
use Rattle.text.specs.Stages.{sheet_after, taken, Takes}

-- may the line stand after those of the sheet so far?
abbrev pub stands_on : Sofar → Line → Buffers → Bool
stands_on s l b = may_stand s.vertices s.edges b.opened (meant s.last) (meant l)

module _ (s : Sofar) (l : Line) (b : Buffers) where
  pub record TakenBy (s' : Sofar) : Type 0 where
    pub may_stand_lem : stands_on s l b ≡ true
    pub vertices_stay : s'.vertices ≡ s.vertices
    pub count : s'.edges ≡ edges_with s.edges (meant l)
    pub last_is : s'.last ≡ l

  pub is_taken : (s' : Sofar) → Some s' ≡ taken s l b → TakenBy s'
  is_taken s' p = go (stands_on s l b) refl p
    where
      go : (t : Bool) → stands_on s l b ≡ t → Some s' ≡ cond t (Some (sheet_after s.vertices (edges_with s.edges (meant l)) l)) None → TakenBy s'
      go true q p =
          let same : s' ≡ sheet_after s.vertices (edges_with s.edges (meant l)) l = cc in
          rw same (record { may_stand_lem = q; vertices_stay = refl; count = refl; last_is = refl })
      go false q p = zero_one (cc)

  pub not_taken : None ≡ taken s l b → stands_on s l b ≡ false
  not_taken p = go (stands_on s l b) refl p
    where
      go : (t : Bool) → stands_on s l b ≡ t → None ≡ cond t (Some (sheet_after s.vertices (edges_with s.edges (meant l)) l)) None
          → stands_on s l b ≡ false
      go true q p = zero_one (cc)
      go false q p = q

  module _ (b' : Buffers) (s' : Sofar) (r : Takes s l b (Some s') b') where
    pub stores : Stores s.edges (meant l) b s'.edges b'
    stores =
        let v = is_taken s' r.result in
        record { count = v.count; arrays = r.arrays ∙ ap (λ t. cond t (stored s.edges (meant l) b) b) v.may_stand_lem }
