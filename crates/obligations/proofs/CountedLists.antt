-- A count through lists that are put behind one another: through one, through those that the items of a fold give, and
-- through two.
use Rattle.std.proofs.Common.{◌≡◌, ℕ, zero, suc, ◌+◌, ◌<◌, Bool, true, false, cond, List, [], ◌∷◌, ◌++◌, map, length, get_or, take, drop, Some, None, Option, MatchOption, sym, refl, ap, ◌∙◌, subst, arith, length-append}
use denote.Param.Members.{Mut, Called}
use mir.Val.{bool_byte}
use Rattle.std.proofs.lemmas.Iterator.{YieldsList}
use Rattle.std.proofs.lemmas.Iterator.Consumers.{YieldsList-so_far, YieldsList-turn, YieldsList-end}
use Rattle.std.proofs.lemmas.List.{length-map, take-append-drop, drop_more, append_assoc}
use Rattle.std.specs.ControlFlow.{MatchControlFlow, IsBreakAnd, break_value, control_flow_from_branch}
use Rattle.std.specs.declared.ops.ControlFlow.{ControlFlow}
use Rattle.std.specs.declared.ops.ControlFlow.TheVariants.{Continue, Break}
use Rattle.std.specs.Iterator.{Yields, TryFoldTurn, TryFoldsItems}
use Rattle.std.specs.List.{range_with_len, FoldsTo}
use Rattle.records.specs.Lists.{at}
use Rattle.semantics.specs.Enumerated.{gathered}
use Rattle.obligations.specs.Listings.{Reached}
use Rattle.obligations.proofs.ShortLists.{at_plain}

module _ {B : Type 0} where
  -- a place in one list, and in another behind it
  pub at_front_lem : (k : ℕ) (xs ys : List B) (o : B) → at k xs ≡ Some o → at k (xs ++ ys) ≡ Some o
  at_front_lem zero (x ∷ xs) ys o e = e
  at_front_lem (suc k) (x ∷ xs) ys o e = at_front_lem k xs ys o e
  at_front_lem zero [] ys o e = cc
  at_front_lem (suc k) [] ys o e = cc

  pub at_behind : (k m : ℕ) (xs ys : List B) → k ≡ length xs + m → at k (xs ++ ys) ≡ at m ys
  at_behind k m [] ys e = let z : k ≡ m = omega arith in ap (λ (j : ℕ). at j ys) z
  at_behind zero m (x ∷ xs) ys e = absurd (omega arith)
  at_behind (suc k) m (x ∷ xs) ys e = at_behind k m xs ys (omega arith)

  -- a count that goes on behind one list, in the list behind it
  pub reached_behind : (k left : ℕ) (xs ys : List B) (r : ControlFlow B ℕ) → k ≡ length xs + left → Reached left ys r → Reached k (xs ++ ys) r
  reached_behind k left xs ys (Break o) e h = at_behind k left xs ys e ∙ h
  reached_behind k left xs ys (Continue m) e h = let l = length-append xs ys in omega (arith, e, h, l)

  -- a count that breaks off within one list
  pub broken_at : (k : ℕ) (xs ys : List B) (o : B) (r : ControlFlow B ℕ) → r ≡ Break o → at k xs ≡ Some o → Reached k (xs ++ ys) r
  broken_at k xs ys o r e h = subst (Reached k (xs ++ ys)) (sym e) (at_front_lem k xs ys o h)

  pub at_end : (k m : ℕ) (xs : List B) → k ≡ length xs + m → None ≡ at k xs
  at_end zero m [] e = refl
  at_end (suc k) m [] e = refl
  at_end zero m (x ∷ xs) e = absurd (omega arith)
  at_end (suc k) m (x ∷ xs) e = at_end k m xs (omega arith)

  -- what a count breaks off at
  pub broken_off : (k : ℕ) (xs : List B) (r : ControlFlow B ℕ) → Reached k xs r → break_value r ≡ at k xs
  broken_off k xs (Break o) h = sym h
  broken_off k xs (Continue m) h = at_end k m xs h

-- the number with an index among 0, 1 and so on
at_counting : (a n k : ℕ) → k < n → at k (range_with_len a n) ≡ Some (a + k)
at_counting a zero k l = absurd (omega arith)
at_counting a (suc n) zero l = let z : a ≡ a + 0 = omega arith in ap (λ (i : ℕ). Some i) z
at_counting a (suc n) (suc k) l = let z : a + 1 + k ≡ a + suc k = omega arith in at_counting (a + 1) n k (omega arith) ∙ ap (λ (i : ℕ). Some i) z

pub counting_found : (n k : ℕ) → k < n → at k (range_with_len 0 n) ≡ Some k
counting_found n k l = let z : 0 + k ≡ k = omega arith in at_counting 0 n k l ∙ ap (λ (i : ℕ). Some i) z

-- a count through n numbers is one through what a function makes of them; P is what is known of a call of the code for it
pub reached_mapped : {B : Type 0} (f : ℕ → B) (P : ℕ → B → Type 0) → ((i : ℕ) (y : B) → P i y → y ≡ f i) → (k n m : ℕ) (r : ControlFlow ℕ ℕ) (q : ControlFlow B ℕ) →
    n ≡ m → Reached k (range_with_len 0 n) r → MatchControlFlow q (λ c. r ≡ Continue c) (λ y. IsBreakAnd r (λ i. P i y)) → Reached k (map f (range_with_len 0 m)) q
reached_mapped {B} f P made k n m r (Continue left) z h e =
    let l = length-map (range_with_len 0 n) f in
    let c : k ≡ length (range_with_len 0 n) + left = subst (Reached k (range_with_len 0 n)) e h in
    subst (λ (j : ℕ). Reached {A = B} k (map f (range_with_len 0 j)) (Continue left)) z (omega (arith, l, c))
reached_mapped {B} f P made k n m r (Break y) z h e =
    let s : at k (range_with_len 0 n) ≡ Some e.0 = subst (Reached k (range_with_len 0 n)) e.1 h in
    subst (λ (j : ℕ). Reached {A = B} k (map f (range_with_len 0 j)) (Break y)) z (sym (at_plain f k (range_with_len 0 n) (Some e.0) (sym s)) ∙ ap (λ (x : B). Some x) (sym (made e.0 y e.2)))

-- one element, or none
pub one_or_none : {B : Type 0} (b : Bool) (o : B) → map (λ (k : ℕ). o) (range_with_len 0 (bool_byte b)) ≡ cond b (o ∷ []) []
one_or_none true o = refl
one_or_none false o = refl

gathered_append : {A B : Type 0} (f : A → List B) (xs ys : List A) → gathered f (xs ++ ys) ≡ gathered f xs ++ gathered f ys
gathered_append f [] ys = refl
gathered_append f (x ∷ xs) ys = ap (λ (zs : List _). f x ++ zs) (gathered_append f xs ys) ∙ sym (append_assoc (f x) (gathered f xs) (gathered f ys))

gathered_map : {A B C : Type 0} (f : B → List C) (plain : A → B) (xs : List A) → gathered (λ (x : A). f (plain x)) xs ≡ gathered f (map plain xs)
gathered_map f plain [] = refl
gathered_map f plain (x ∷ xs) = ap (λ (zs : List _). f (plain x) ++ zs) (gathered_map f plain xs)

-- i lists are counted through, and the next has the place that is left
pub counted_at : {A B : Type 0} (f : A → List B) (xs : List A) (k i left : ℕ) (x : A) (o : B) → k ≡ length (gathered f (take i xs)) + left → i < length xs → x ≡ get_or xs i x → at left (f x) ≡ Some o → at k (gathered f xs) ≡ Some o
counted_at f xs k i left x o n l e p =
    ap (λ (zs : List _). at k (gathered f zs)) (sym (take-append-drop i xs))
    ∙ ap (at k) (gathered_append f (take i xs) (drop i xs))
    ∙ at_behind k left (gathered f (take i xs)) (gathered f (drop i xs)) n
    ∙ ap (λ (zs : List _). at left (gathered f zs)) (drop_more xs i x l ∙ ap (λ (y : _). y ∷ drop (i + 1) xs) (sym e))
    ∙ at_front_lem left (f x) (gathered f (drop (i + 1) xs)) o p

-- a fold whose closure counts through the list that each item gives; `goes` and `breaks` are what `?` does with its answers
module _ {S A B O F E : Type 0} (steps : S → Option A → S → Type 0) (v : A → B) (g : Mut F (ℕ × (A × Unit {0})) (ControlFlow O ℕ)) (branches : ControlFlow O ℕ → ControlFlow E ℕ → Type 0) (resumes : E → ControlFlow O ℕ → Type 0)
    (goes : (r : ControlFlow O ℕ) (k : ℕ) → branches r (Continue k) → r ≡ Continue k)
    (breaks : (t r : ControlFlow O ℕ) (e : E) → branches t (Break e) → resumes e r → (o : O) × (t ≡ Break o) × (r ≡ Break o))
    (h : B → List O) (f : F) (each : (k : ℕ) (x : A) (r : ControlFlow O ℕ) (q : F) → Called g f (k, (x, tt)) r q → (q ≡ f) × Reached k (h (v x)) r) where
  -- past some items
  past : (xs : List A) (k : ℕ) (q : F) (left : ℕ) → FoldsTo {P = F × ℕ} (TryFoldTurn g branches) (f, k) xs (q, left) → (q ≡ f) × (k ≡ length (gathered h (map v xs)) + left)
  past [] k q left e = let n : k ≡ left = ap (λ (p : F × ℕ). p.1) e in (sym (ap (λ (p : F × ℕ). p.0) e), omega (arith, n))
  past (x ∷ xs) k q left e =
      let t = each k x e.1.0 e.0.0 e.1.1 in
      let m : k ≡ length (h (v x)) + e.0.1 = subst (Reached k (h (v x))) (goes e.1.0 e.0.1 e.1.2) t.1 in
      let p = past xs e.0.1 q left (subst (λ (j : F). FoldsTo {P = F × ℕ} (TryFoldTurn g branches) (j, e.0.1) xs (q, left)) t.0 e.2) in
      let l = length-append (h (v x)) (gathered h (map v xs)) in
      (p.0, omega (arith, m, p.1, l))

  -- and then the end, or the item where the fold breaks off
  ends : (s w u : S) (all : List B) (k : ℕ) (xs : List A) (o : Option A) (q : F) (left : ℕ) (r : ControlFlow O ℕ) → YieldsList steps v s all → Yields steps s xs w → steps w o u →
      FoldsTo {P = F × ℕ} (TryFoldTurn g branches) (f, k) xs (q, left) →
      MatchOption o (branches r (Continue left)) (λ x. (t : ControlFlow O ℕ) × (j : F) × (e : E) × Called g q (left, (x, tt)) t j × branches t (Break e) × resumes e r) → Reached k (gathered h all) r
  ends s w u all k xs None q left r y yl st e m =
      let p = past xs k q left e in
      let z = YieldsList-end y xs w yl None u refl st in
      subst (Reached k (gathered h all)) (sym (goes r left m)) (p.1 ∙ ap (λ (zs : List B). length (gathered h zs) + left) z.0)
  ends s w u all k xs (Some x) q left r y yl st e m =
      let p = past xs k q left e in
      let t = YieldsList-turn y xs w yl (Some x) u x refl st in
      let c = each left x m.0 m.1 (subst (λ (j : F). Called g j (left, (x, tt)) m.0 m.1) p.0 m.3) in
      let z = breaks m.0 r m.2 m.4 m.5 in
      let b : at left (h (v x)) ≡ Some z.0 = subst (Reached left (h (v x))) z.1 c.1 in
      let n : k ≡ length (gathered h (take (length xs) all)) + left = p.1 ∙ ap (λ (zs : List B). length (gathered h zs) + left) (YieldsList-so_far y xs w yl) in
      subst (Reached k (gathered h all)) (sym z.2) (counted_at h all k (length xs) left (v x) z.0 n t.0 t.1 b)

  pub counted_through : (s u : S) (all : List B) (k : ℕ) (r : ControlFlow O ℕ) → TryFoldsItems steps g branches resumes s f k r u → YieldsList steps v s all → Reached k (gathered h all) r
  counted_through s u all k r t y = ends s t.4.0 u all k t.0 t.1 t.2 t.3 r y t.4.1 t.4.2 t.5 t.6

-- the same for a closure that answers by a `ControlFlow`
pub counted_flow : {S A B O F : Type 0} {steps : S → Option A → S → Type 0} {v : A → B} {g : Mut F (ℕ × (A × Unit {0})) (ControlFlow O ℕ)} {f : F} {s : S} {all : List B} {k : ℕ} {r : ControlFlow O ℕ} →
    (h : B → List O) (u : S) → TryFoldsItems steps g (λ (t : ControlFlow O ℕ) b. t ≡ control_flow_from_branch b) (λ e w. w ≡ Break e.0) s f k r u → YieldsList steps v s all →
    ((n : ℕ) (x : A) (t : ControlFlow O ℕ) (q : F) → Called g f (n, (x, tt)) t q → (q ≡ f) × Reached n (h (v x)) t) → Reached k (gathered h all) r
counted_flow {v = v} {g = g} {f = f} {s = s} {all = all} {k = k} {r = r} h u t y each =
    counted_through _ v g (λ (t : ControlFlow _ ℕ) b. t ≡ control_flow_from_branch b) (λ e w. w ≡ Break e.0) (λ r k h. h) (λ t r e p q. (e.0, p, q)) h f each s u all k r t y

-- and where the lists are those of the items' plain values
pub counted_plain : {S A B C O F : Type 0} {steps : S → Option A → S → Type 0} {v : A → B} {g : Mut F (ℕ × (A × Unit {0})) (ControlFlow O ℕ)} {f : F} {s : S} {all : List B} {k : ℕ} {r : ControlFlow O ℕ} →
    (plain : B → C) (h : C → List O) (u : S) → TryFoldsItems steps g (λ (t : ControlFlow O ℕ) b. t ≡ control_flow_from_branch b) (λ e w. w ≡ Break e.0) s f k r u → YieldsList steps v s all →
    ((n : ℕ) (x : A) (t : ControlFlow O ℕ) (q : F) → Called g f (n, (x, tt)) t q → (q ≡ f) × Reached n (h (plain (v x))) t) → Reached k (gathered h (map plain all)) r
counted_plain {all = all} {k = k} {r = r} plain h u t y each = subst (λ (zs : List _). Reached k zs r) (gathered_map h plain all) (counted_flow (λ x. h (plain x)) u t y each)
