-- The results of steps on operands, and the expressions that have these steps.
use Rattle.std.proofs.Common.{◌≡◌, ◌+◌, ◌-◌, ℕ, ℤ, suc, List, [], ◌∷◌, ◌++◌, length, map, refl, sym, ap, ◌∙◌, arith, append_assoc, append-nil, length-append}
use Rattle.std.specs.Prelude.{slice_index_or}
use Rattle.std.proofs.Math.Seq.{take-append_seam, drop-append_seam}
use Rattle.std.proofs.lemmas.List.{length-map, map-append}
use Rattle.cell_calc_grammar.specs.declared.function.Function.{Function}
use Rattle.cell_calc_grammar.specs.declared.operator.Operator.{Operator}
use Rattle.cell_calc_grammar.specs.declared.step.Step.{Step}
use Rattle.cell_calc_grammar.specs.declared.step.Step.TheVariants as step
use Rattle.cell_calc_grammar.specs.Tree.{Tree, Number, Map, Negated, Not, Binary, Call, Trees, NoTrees, Then, argument_count, fold_maps, fold_all, with_leaves, with_leaves_all}
use Rattle.cell_calc_grammar.specs.Postfix.{postfix, postfix_all, arity_of_step, operands_after_steps, StepsHaveEnoughOperands, argument_trees_of_list, tree_of_step, tree_of_steps, step_with_leaf_replaced, value_of_step_map_or_default, fold_maps_of_steps}

-- the arguments as a list
abbrev pub listed : {L : Type 0} → Trees L → List (Tree L)
listed NoTrees = []
listed (Then a xs) = a ∷ listed xs

pub length-listed : {L : Type 0} (xs : Trees L) → length (listed xs) ≡ argument_count xs
length-listed NoTrees = refl
length-listed (Then a xs) = ap suc (length-listed xs)

-- applying a step to operands gives the meaning of the expression that they form
pub record IsMeaning (L X : Type 0) (made : Step L → List X → X) (m : Tree L → X) : Type 0 where
  pub number : (n : ℕ) → made (step.Number n) [] ≡ m (Number n)
  pub leaf : (l : L) (down right : ℤ) → made (step.Map l down right) [] ≡ m (Map l down right)
  pub negated : (a : Tree L) → made step.Negated (m a ∷ []) ≡ m (Negated a)
  pub inverted : (a : Tree L) → made step.Not (m a ∷ []) ≡ m (Not a)
  pub binary : (op : Operator) (a b : Tree L) → made (step.Binary op) (m a ∷ m b ∷ []) ≡ m (Binary op a b)
  pub call : (f : Function) (xs : Trees L) → made (step.Call f (argument_count xs)) (map m (listed xs)) ≡ m (Call f xs)

-- a step removes its operands from the end of the list
pub one_step : {L X : Type 0} (made : Step L → List X → X) (s : Step L) (rest : List (Step L)) (xs ys : List X) → length ys ≡ arity_of_step s
    → operands_after_steps made (s ∷ rest) (xs ++ ys) ≡ operands_after_steps made rest (xs ++ made s ys ∷ [])
one_step made s rest xs ys argument_count =
    let e : length (xs ++ ys) - arity_of_step s ≡ length xs = omega (arith, length-append xs ys) in
    rw (e, take-append_seam xs ys, drop-append_seam xs ys) refl

-- a step without operands only adds its result
no_operands : {L X : Type 0} (made : Step L → List X → X) (s : Step L) (rest : List (Step L)) (xs : List X) → 0 ≡ arity_of_step s
    → operands_after_steps made (s ∷ rest) xs ≡ operands_after_steps made rest (xs ++ made s [] ∷ [])
no_operands made s rest xs none = ap (λ l. operands_after_steps made (s ∷ rest) l) (sym (append-nil xs)) ∙ one_step made s rest xs [] none

mutual
  -- the steps of an expression add the meaning of the expression at the end
  pub after_postfix : {L X : Type 0} (made : Step L → List X → X) (m : Tree L → X) → IsMeaning L X made m
      → (f : Tree L) (rest : List (Step L)) (xs : List X) → operands_after_steps made (postfix f ++ rest) xs ≡ operands_after_steps made rest (xs ++ m f ∷ [])
  after_postfix made m is (Number n) rest xs =
      no_operands made (step.Number n) rest xs refl ∙ ap (λ v. operands_after_steps made rest (xs ++ v ∷ []))
      (is.number n)
  after_postfix made m is (Map l down right) rest xs =
      no_operands made (step.Map l down right) rest xs refl ∙ ap (λ v. operands_after_steps made rest (xs ++ v ∷ [])) (is.leaf l down right)
  after_postfix made m is (Negated a) rest xs =
      ap (λ l. operands_after_steps made l xs) (append_assoc (postfix a) (step.Negated ∷ []) rest) ∙ after_postfix made m is a (step.Negated ∷ rest) xs
      ∙ one_step made step.Negated rest xs (m a ∷ []) refl ∙ ap (λ v. operands_after_steps made rest (xs ++ v ∷ [])) (is.negated a)
  after_postfix made m is (Not a) rest xs =
      ap (λ l. operands_after_steps made l xs) (append_assoc (postfix a) (step.Not ∷ []) rest) ∙ after_postfix made m is a (step.Not ∷ rest) xs
      ∙ one_step made step.Not rest xs (m a ∷ []) refl ∙ ap (λ v. operands_after_steps made rest (xs ++ v ∷ []))
      (is.inverted a)
  after_postfix made m is (Binary op a b) rest xs =
      ap (λ l. operands_after_steps made l xs) (append_assoc (postfix a) (postfix b ++ step.Binary op ∷ []) rest)
      ∙ after_postfix made m is a ((postfix b ++ step.Binary op ∷ []) ++ rest) xs
      ∙ ap (λ l. operands_after_steps made l (xs ++ m a ∷ [])) (append_assoc (postfix b) (step.Binary op ∷ []) rest)
      ∙ after_postfix made m is b (step.Binary op ∷ rest) (xs ++ m a ∷ [])
      ∙ ap (λ l. operands_after_steps made (step.Binary op ∷ rest) l) (append_assoc xs (m a ∷ []) (m b ∷ []))
      ∙ one_step made (step.Binary op) rest xs (m a ∷ m b ∷ []) refl ∙ ap (λ v. operands_after_steps made rest (xs ++ v ∷ [])) (is.binary op a b)
  after_postfix {L = L} made m is (Call f xs) rest ys =
      let s : Step L = step.Call f (argument_count xs) in
      ap (λ l. operands_after_steps made l ys) (append_assoc (postfix_all xs) (s ∷ []) rest) ∙ after_all made m is xs (s ∷ rest) ys
      ∙ one_step made s rest ys (map m (listed xs)) (length-map (listed xs) m ∙ length-listed xs) ∙ ap (λ v. operands_after_steps made rest (ys ++ v ∷ [])) (is.call f xs)

  after_all : {L X : Type 0} (made : Step L → List X → X) (m : Tree L → X) → IsMeaning L X made m
      → (xs : Trees L) (rest : List (Step L)) (ys : List X) → operands_after_steps made (postfix_all xs ++ rest) ys ≡ operands_after_steps made rest (ys ++ map m (listed xs))
  after_all made m is NoTrees rest ys = ap (λ l. operands_after_steps made rest l) (sym (append-nil ys))
  after_all made m is (Then a xs) rest ys =
      ap (λ l. operands_after_steps made l ys) (append_assoc (postfix a) (postfix_all xs) rest) ∙ after_postfix made m is a (postfix_all xs ++ rest) ys
      ∙ after_all made m is xs rest (ys ++ m a ∷ []) ∙ ap (λ l. operands_after_steps made rest l) (append_assoc ys (m a ∷ []) (map m (listed xs)))

arguments-listed : {L : Type 0} (xs : Trees L) → argument_trees_of_list (map (λ a. a) (listed xs)) ≡ xs
arguments-listed NoTrees = refl
arguments-listed (Then a xs) = ap (λ l. Then a l) (arguments-listed xs)

-- the steps of an expression build that expression
pub tree-postfix : {L : Type 0} (f : Tree L) → tree_of_steps (postfix f) ≡ f
tree-postfix {L = L} f =
    let is : IsMeaning L (Tree L) tree_of_step (λ a. a) =
    record {
      number = λ n. refl;
      leaf = λ l down right. refl;
      negated = λ a. refl;
      inverted = λ a. refl;
      binary = λ op a b. refl;
      call = λ g xs. ap (λ l. Call g l) (arguments-listed xs);
    } in
    ap (λ l. tree_of_steps l) (sym (append-nil (postfix f))) ∙ ap (λ l. slice_index_or l 0 (Number 0)) (after_postfix tree_of_step (λ a. a) is f [] [])

-- the steps of an expression are the steps of the expression that they build
pub are_of_tree : {L : Type 0} (f : Tree L) (steps : List (Step L)) → steps ≡ postfix f → (tree_of_steps steps ≡ f) × (steps ≡ postfix (tree_of_steps steps))
are_of_tree f steps e =
    let b : tree_of_steps steps ≡ f = ap (λ l. tree_of_steps l) e ∙ tree-postfix f in
    (b, e ∙ ap (λ g. postfix g) (sym b))

-- a step and the steps after it have enough operands if the later steps have enough with the step's result
taking : {L : Type 0} (s : Step L) (rest : List (Step L)) (n : ℕ) → StepsHaveEnoughOperands rest (n + 1) → StepsHaveEnoughOperands (s ∷ rest) (n + arity_of_step s)
taking s rest n h = (omega arith, let e : (n + arity_of_step s) - arity_of_step s + 1 ≡ n + 1 = omega arith in rw e h)

mutual
  -- each step of an expression has enough operands
  enough : {L : Type 0} (f : Tree L) (rest : List (Step L)) (n : ℕ) → StepsHaveEnoughOperands rest (n + 1) → StepsHaveEnoughOperands (postfix f ++ rest) n
  enough (Number i) rest n h = let e : n + 0 ≡ n = omega arith in rw e at (taking (step.Number i) rest n h)
  enough (Map l down right) rest n h = let e : n + 0 ≡ n = omega arith in rw e at (taking (step.Map l down right) rest n h)
  enough (Negated a) rest n h = rw (append_assoc (postfix a) (step.Negated ∷ []) rest) (enough a (step.Negated ∷ rest) n (taking step.Negated rest n h))
  enough (Not a) rest n h = rw (append_assoc (postfix a) (step.Not ∷ []) rest) (enough a (step.Not ∷ rest) n (taking step.Not rest n h))
  enough (Binary op a b) rest n h =
      rw (append_assoc (postfix a) (postfix b ++ step.Binary op ∷ []) rest, append_assoc (postfix b) (step.Binary op ∷ []) rest)
      (enough a (postfix b ++ (step.Binary op ∷ rest)) n (enough b (step.Binary op ∷ rest) (n + 1)
      (let e : n + 1 + 1 ≡ n + 2 = omega arith in rw e (taking (step.Binary op) rest n h))))
  enough {L = L} (Call f xs) rest n h =
      let s : Step L = step.Call f (argument_count xs) in
      rw (append_assoc (postfix_all xs) (s ∷ []) rest) (enough_all xs (s ∷ rest) n (taking s rest n h))

  enough_all : {L : Type 0} (xs : Trees L) (rest : List (Step L)) (n : ℕ) → StepsHaveEnoughOperands rest (n + argument_count xs) → StepsHaveEnoughOperands (postfix_all xs ++ rest) n
  enough_all NoTrees rest n h = let e : n + 0 ≡ n = omega arith in rw e at h
  enough_all (Then a xs) rest n h =
      rw (append_assoc (postfix a) (postfix_all xs) rest)
      (enough a (postfix_all xs ++ rest) n (enough_all xs rest (n + 1) (let e : n + 1 + argument_count xs ≡ n + suc (argument_count xs) = omega arith in rw e h)))

pub enough_steps : {L : Type 0} (f : Tree L) → StepsHaveEnoughOperands (postfix f) 0
enough_steps f = rw (append-nil (postfix f)) at (enough f [] 0 refl)

pub count-over : {L M : Type 0} (to : L → M) (xs : Trees L) → argument_count (with_leaves_all to xs) ≡ argument_count xs
count-over to NoTrees = refl
count-over to (Then a xs) = ap suc (count-over to xs)

mutual
  -- the steps of an expression with replaced leaves are its steps with replaced leaves
  pub postfix-over : {L M : Type 0} (to : L → M) (f : Tree L) → map (step_with_leaf_replaced to) (postfix f) ≡ postfix (with_leaves to f)
  postfix-over to (Number n) = refl
  postfix-over to (Map l down right) = refl
  postfix-over to (Negated a) = rw (
    map-append (step_with_leaf_replaced to) (postfix a) (step.Negated
        ∷ []),
    postfix-over to a,
  ) refl
  postfix-over to (Not a) = rw (
    map-append (step_with_leaf_replaced to) (postfix a) (step.Not
        ∷ []),
    postfix-over to a,
  ) refl
  postfix-over to (Binary op a b) =
      rw (
        map-append (step_with_leaf_replaced to) (postfix a) (postfix b ++ step.Binary op ∷ []),
        map-append (step_with_leaf_replaced to) (postfix b) (step.Binary op ∷ []),
        postfix-over to a,
        postfix-over to b,
      ) refl
  postfix-over to (Call f xs) =
      rw (map-append (step_with_leaf_replaced to) (postfix_all xs) (step.Call f (argument_count xs) ∷ []), postfix-over_all to xs, count-over to xs) refl

  postfix-over_all : {L M : Type 0} (to : L → M) (xs : Trees L) → map (step_with_leaf_replaced to) (postfix_all xs) ≡ postfix_all (with_leaves_all to xs)
  postfix-over_all to NoTrees = refl
  postfix-over_all to (Then a xs) = rw (map-append (step_with_leaf_replaced to) (postfix a) (postfix_all xs), postfix-over to a, postfix-over_all to xs) refl

-- joining is associative and has a unit on both sides
pub record IsJoin (X : Type 0) (none : X) (join : X → X → X) : Type 0 where
  pub left : (x : X) → join none x ≡ x
  pub right : (x : X) → join x none ≡ x
  pub both : (x y z : X) → join x (join y z) ≡ join (join x y) z

module _ {L X : Type 0} (at : L → ℤ → ℤ → X) (none : X) (join : X → X → X) (is : IsJoin X none join) where
  pub fold-append : (xs ys : List (Step L)) → fold_maps_of_steps at none join (xs ++ ys) ≡ join (fold_maps_of_steps at none join xs) (fold_maps_of_steps at none join ys)
  fold-append [] ys = sym (is.left (fold_maps_of_steps at none join ys))
  fold-append (s ∷ xs) ys =
      ap (λ x. join (value_of_step_map_or_default at none s) x) (fold-append xs ys) ∙ is.both (value_of_step_map_or_default at none s) (fold_maps_of_steps at none join xs) (fold_maps_of_steps at none join ys)

  -- a last step that reads no map does not change the result
  last_none : (xs : List (Step L)) (s : Step L) → value_of_step_map_or_default at none s ≡ none → fold_maps_of_steps at none join (xs ++ s ∷ []) ≡ fold_maps_of_steps at none join xs
  last_none xs s e =
      fold-append xs (s ∷ []) ∙ ap (λ x. join (fold_maps_of_steps at none join xs) (join x none)) e ∙ ap (λ x. join (fold_maps_of_steps at none join xs) x) (is.left none)
      ∙ is.right (fold_maps_of_steps at none join xs)

  mutual
    -- folding an expression's steps gives the same result as folding its maps
    pub fold-postfix : (f : Tree L) → fold_maps_of_steps at none join (postfix f) ≡ fold_maps at none join f
    fold-postfix (Number n) = is.left none
    fold-postfix (Map l down right) = is.right (at l down right)
    fold-postfix (Negated a) = last_none (postfix a) step.Negated refl ∙ fold-postfix a
    fold-postfix (Not a) = last_none (postfix a) step.Not refl ∙ fold-postfix a
    fold-postfix (Binary op a b) =
        fold-append (postfix a) (postfix b ++ step.Binary op ∷ [])
        ∙ ap (λ x. join x (fold_maps_of_steps at none join (postfix b ++ step.Binary op ∷ []))) (fold-postfix a)
        ∙ ap (λ x. join (fold_maps at none join a) x) (last_none (postfix b) (step.Binary op) refl ∙ fold-postfix b)
    fold-postfix (Call f xs) = last_none (postfix_all xs) (step.Call f (argument_count xs)) refl ∙ fold-postfix_all xs

    fold-postfix_all : (xs : Trees L) → fold_maps_of_steps at none join (postfix_all xs) ≡ fold_all at none join xs
    fold-postfix_all NoTrees = refl
    fold-postfix_all (Then a xs) =
        fold-append (postfix a) (postfix_all xs)
        ∙ ap (λ x. join x (fold_maps_of_steps at none join (postfix_all xs))) (fold-postfix a)
        ∙ ap (λ x. join (fold_maps at none join a) x) (fold-postfix_all xs)
