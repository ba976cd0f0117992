-- Two cuts of the same list.
use Rattle.std.proofs.Common.{◌≡◌, List, [], ◌∷◌, ◌++◌, length, refl, sym, ap, ◌∙◌, arith, length-append, append-nil}

-- two cuts are at the same index, or one is before the other
pub data Cuts {A : Type 0} (b : List A) (x : A) (r : List A) (b' : List A) (x' : A) (r' : List A) : Type 0 where
  same : b ≡ b' → x ≡ x' → r ≡ r' → Cuts b x r b' x' r'
  before : (m : List A) → b' ≡ b ++ x ∷ m → r ≡ m ++ x' ∷ r' → Cuts b x r b' x' r'
  behind : (m : List A) → b ≡ b' ++ x' ∷ m → r' ≡ m ++ x ∷ r → Cuts b x r b' x' r'

-- the item is in the first part or in the second
pub data Stays {A : Type 0} (l k b : List A) (x : A) (r : List A) : Type 0 where
  in_first : (m : List A) → l ≡ b ++ x ∷ m → r ≡ m ++ k → Stays l k b x r
  in_second : (m : List A) → k ≡ m ++ x ∷ r → b ≡ l ++ m → Stays l k b x r

pub stays : {A : Type 0} (l k b : List A) (x : A) (r : List A) → l ++ k ≡ b ++ x ∷ r → Stays l k b x r
stays [] k b x r e = in_second b e refl
stays (y ∷ l) k [] x r e =
    let f : y ≡ x = cc in
    let g : l ++ k ≡ r = cc in
    in_first l (ap (λ z. z ∷ l) f) (sym g)
stays (y ∷ l) k (y' ∷ b) x r e =
    let f : y ≡ y' = cc in
    let g : l ++ k ≡ b ++ x ∷ r = cc in
    elim (stays l k b x r g) [ in_first m h i ↦ in_first m (cc) i | in_second m h i ↦ in_second m h (cc) ]

pub cuts : {A : Type 0} (b : List A) (x : A) (r b' : List A) (x' : A) (r' : List A) → b ++ x ∷ r ≡ b' ++ x' ∷ r' → Cuts b x r b' x' r'
cuts b x r b' x' r' e = go (stays b (x ∷ r) b' x' r' e)
  where
    go : Stays b (x ∷ r) b' x' r' → Cuts b x r b' x' r'
    go (in_first m f g) = behind m f g
    go (in_second [] f g) = same (sym (g ∙ append-nil b)) (cc) (cc)
    go (in_second (y ∷ m) f g) = before m (cc) (cc)

pub not_longer : {A : Type 0} (x : A) (m l : List A) → l ≡ x ∷ (m ++ l) → ⊥
not_longer x m l e =
    let f : length l ≡ length (x ∷ (m ++ l)) = ap length e in
    grind (arith, length-append)

pub not_nothing : {A : Type 0} (b : List A) (x : A) (r : List A) → [] ≡ b ++ x ∷ r → ⊥
not_nothing [] x r e = cc
not_nothing (y ∷ b) x r e = cc

-- if two lists are equal, so are their last items and the items before them
pub same_ends : {A : Type 0} (b : List A) (x : A) (b' : List A) (x' : A) → b ++ x ∷ [] ≡ b' ++ x' ∷ [] → (b ≡ b') × (x ≡ x')
same_ends b x b' x' e =
    elim (cuts b x [] b' x' [] e) [
      | same f g h ↦ (f, g)
      | before m f g ↦ absurd (not_nothing m x' [] g)
      | behind m f g ↦ absurd (not_nothing m x [] g)
    ]
