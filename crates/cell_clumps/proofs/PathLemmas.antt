-- Paths: each cell is joined to itself, paths can be reversed, and paths can be chained.
use Rattle.std.proofs.Common.{◌≡◌, ℕ, ℤ, ◌++◌, [], ◌∷◌, List, Some, refl, ap, sym, ◌∙◌, subst, inl, inr}
use Rattle.std.specs.List.{All}
use Rattle.std.proofs.lemmas.List.Elements.{All-nil, All-cons, All-head, All-tail, All-append}
use Rattle.cell_core.specs.Grid.{Grid}
use Rattle.cell_clumps.specs.declared.clump.Joining.{Joining}
use Rattle.cell_clumps.specs.declared.clump.Joining.TheVariants.{Edges, EdgesAndCorners}
use Rattle.cell_clumps.specs.Clumps.{Position, cell_at_position, DifferByOne, CellsShareEdge, AreAdjacent, IsPathFromTo, AreCellsConnected}

DifferByOne-sym : (i j : ℕ) → DifferByOne i j → DifferByOne j i
DifferByOne-sym i j (inl e) = inr e
DifferByOne-sym i j (inr e) = inl e

CellsShareEdge-sym : (p q : Position) → CellsShareEdge p q → CellsShareEdge q p
CellsShareEdge-sym p q (inl e) = inl (sym e.0, DifferByOne-sym _ _ e.1)
CellsShareEdge-sym p q (inr e) = inr (DifferByOne-sym _ _ e.0, sym e.1)

pub AreAdjacent-sym : (j : Joining) (p q : Position) → AreAdjacent j p q → AreAdjacent j q p
AreAdjacent-sym Edges p q h = CellsShareEdge-sym p q h
AreAdjacent-sym EdgesAndCorners p q (inl h) = inl (CellsShareEdge-sym p q h)
AreAdjacent-sym EdgesAndCorners p q (inr h) = inr (DifferByOne-sym _ _ h.0, DifferByOne-sym _ _ h.1)

-- two paths, the second from the end of the first, make one path
IsPathFromTo-append : (j : Joining) (p : Position) (xs : List Position) (q : Position) (ys : List Position) (r : Position) → IsPathFromTo j p xs q → IsPathFromTo j q ys r → IsPathFromTo j p (xs ++ ys) r
IsPathFromTo-append j p [] q ys r h k = subst (λ (s : Position). IsPathFromTo j s ys r) (sym h) k
IsPathFromTo-append j p (x ∷ xs) q ys r h k = (h.0, IsPathFromTo-append j x xs q ys r h.1 k)

-- the last cell of a path over cells of one category has that category
last_alike : (j : Joining) (m : Grid) (v : ℤ) (p : Position) (xs : List Position) (q : Position) → IsPathFromTo j p xs q → All (λ s. cell_at_position m s ≡ Some v) (p ∷ xs) → cell_at_position m q ≡ Some v
last_alike j m v p [] q h all = ap (cell_at_position m) (sym h) ∙ All-head (λ s. cell_at_position m s ≡ Some v) p [] all
last_alike j m v p (x ∷ xs) q h all = last_alike j m v x xs q h.1 (All-tail (λ s. cell_at_position m s ≡ Some v) p (x ∷ xs) all)

pub AreJoined-first : (j : Joining) (m : Grid) (p q : Position) → (h : AreCellsConnected j m p q) → cell_at_position m p ≡ Some h.category
AreJoined-first j m p q h = All-head (λ s. cell_at_position m s ≡ Some h.category) p h.others h.alike

pub AreJoined-last : (j : Joining) (m : Grid) (p q : Position) → (h : AreCellsConnected j m p q) → cell_at_position m q ≡ Some h.category
AreJoined-last j m p q h = last_alike j m h.category p h.others q h.leads h.alike

-- a cell that is not null is joined to itself
pub AreJoined-refl : (j : Joining) (m : Grid) (p : Position) (v : ℤ) → cell_at_position m p ≡ Some v
    → AreCellsConnected j m p p
AreJoined-refl j m p v is = record {
  category = v;
  others = [];
  leads = refl;
  alike = All-cons (λ s. cell_at_position m s ≡ Some v) p [] is (All-nil (λ s. cell_at_position m s ≡ Some v));
}

-- adjacent cells of the same category are joined
pub AreJoined-adjacent : (j : Joining) (m : Grid) (p q : Position) (v : ℤ) → AreAdjacent j p q → cell_at_position m p ≡ Some v → cell_at_position m q ≡ Some v → AreCellsConnected j m p q
AreJoined-adjacent j m p q v near is also = record {
  category = v;
  others = q ∷ [];
  leads = (near, refl);
  alike = All-cons (λ s. cell_at_position m s ≡ Some v) p (q ∷ []) is (All-cons (λ s. cell_at_position m s ≡ Some v) q [] also (All-nil (λ s. cell_at_position m s ≡ Some v)));
}

pub AreJoined-trans : (j : Joining) (m : Grid) (p q r : Position) → AreCellsConnected j m p q → AreCellsConnected j m q r → AreCellsConnected j m p r
AreJoined-trans j m p q r h k =
    let last = AreJoined-last j m p q h in
    let first = AreJoined-first j m q r k in
    let same : k.category ≡ h.category = cc in
    record {
      category = h.category;
      others = h.others ++ k.others;
      leads = IsPathFromTo-append j p h.others q k.others r h.leads k.leads;
      alike = All-append (λ s. cell_at_position m s ≡ Some h.category) (p ∷ h.others) k.others h.alike
          (All-tail (λ s. cell_at_position m s ≡ Some h.category) q k.others (subst (λ (v : ℤ). All (λ s. cell_at_position m s ≡ Some v) (q ∷ k.others)) same k.alike));
    }

-- a path can be followed back
back : (j : Joining) (m : Grid) (v : ℤ) (p : Position) (xs : List Position) (q : Position) → IsPathFromTo j p xs q → All (λ s. cell_at_position m s ≡ Some v) (p ∷ xs) → AreCellsConnected j m q p
back j m v p [] q h all = subst (λ (s : Position). AreCellsConnected j m s p) h (AreJoined-refl j m p v (All-head (λ s. cell_at_position m s ≡ Some v) p [] all))
back j m v p (x ∷ xs) q h all =
    let is = All-head (λ s. cell_at_position m s ≡ Some v) p (x ∷ xs) all in
    let rest = All-tail (λ s. cell_at_position m s ≡ Some v) p (x ∷ xs) all in
    AreJoined-trans j m q x p (back j m v x xs q h.1 rest)
    (AreJoined-adjacent j m x p v (AreAdjacent-sym j p x h.0) (All-head (λ s. cell_at_position m s ≡ Some v) x xs rest) is)

pub AreJoined-sym : (j : Joining) (m : Grid) (p q : Position) → AreCellsConnected j m p q → AreCellsConnected j m q p
AreJoined-sym j m p q h = back j m h.category p h.others q h.leads h.alike

-- a function equal at adjacent cells of the same category is equal at joined cells
along : (j : Joining) (m : Grid) (f : Position → ℕ) → ((p q : Position) (v : ℤ) → AreAdjacent j p q → cell_at_position m p ≡ Some v → cell_at_position m q ≡ Some v → f p ≡ f q) → (v : ℤ) (p : Position) (xs : List Position) (q : Position) → IsPathFromTo j p xs q → All (λ s. cell_at_position m s ≡ Some v) (p ∷ xs) → f p ≡ f q
along j m f step v p [] q h all = ap f h
along j m f step v p (x ∷ xs) q h all =
    let is = All-head (λ s. cell_at_position m s ≡ Some v) p (x ∷ xs) all in
    let rest = All-tail (λ s. cell_at_position m s ≡ Some v) p (x ∷ xs) all in
    step p x v h.0 is (All-head (λ s. cell_at_position m s ≡ Some v) x xs rest) ∙ along j m f step v x xs q h.1 rest

pub AreJoined-along : (j : Joining) (m : Grid) (f : Position → ℕ) → ((p q : Position) (v : ℤ) → AreAdjacent j p q → cell_at_position m p ≡ Some v → cell_at_position m q ≡ Some v → f p ≡ f q) → (p q : Position) → AreCellsConnected j m p q → f p ≡ f q
AreJoined-along j m f step p q h = along j m f step h.category p h.others q h.leads h.alike
