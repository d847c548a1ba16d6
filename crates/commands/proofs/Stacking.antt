-- Words cut at their slashes, by the stacks that they write, and the law that stacks written are read again.
use Rattle.std.proofs.Common.{◌≡◌, ℕ, zero, suc, ◌<◌, Bool, true, false, cond, List, [], ◌∷◌, ◌++◌, length, get_or, Some, None, codes, Option, sym, refl, ap, ◌∙◌, subst, ⊎_elim, arith}
use Rattle.std.specs.Borrow.{Bor}
use Rattle.std.specs.List.{AllByRecursion}
use Rattle.std.specs.Str.{bytes_eq}
use Rattle.std.proofs.ByRecursion.{All-from_get_or}
use Rattle.std.proofs.lemmas.Option.{MatchOption-at_some}
use Rattle.std.proofs.lemmas.Str.Pattern.{IsSplitOnceResult, split_parts}
use Rattle.std.proofs.lemmas.Slice.Eq.{bytes_eq-Decides}
use Rattle.std.proofs.lemmas.Bool.{cond-true, cond-false, ne_eqb, eqb-true, cases_Bool}
use Rattle.words.specs.Words.{pieces, onto}
use Rattle.words.proofs.Cuts.{pieces_whole, pieces_at_lem}
use Rattle.commands.specs.declared.stacks.Base.{Base}
use Rattle.commands.specs.declared.stacks.Base.TheVariants.{Multipliers, LookUp}
use Rattle.commands.specs.declared.stacks.Layer.{Layer}
use Rattle.commands.specs.declared.stacks.Layer.TheVariants.{Cut, Split}
use Rattle.commands.specs.declared.stacks.Stack.{Stack}
use Rattle.commands.specs.declared.stacks.Stack.TheVariants.{Bare, Single, Double}
use Rattle.commands.specs.Stacks.{slash, base_of, layer_of, over, of_base, stacked, stack_of, base_name, layer_name, names, slashed, stack_text, StacksRead}

-- a choice between two names
module _ {X : Type 0} (w a b : List ℕ) (x y : X) where
  abbrev choice : Option X
  choice = cond (bytes_eq w a) (Some x) (cond (bytes_eq w b) (Some y) None)

  choice_cases : (P : Option X → Type 0) → (w ≡ a → P (Some x)) → (w ≡ b → P (Some y)) → (choice ≡ None → P None) → P choice
  choice_cases P p q r =
      ⊎_elim (λ t. subst P (sym (cond-true (bytes_eq w a) _ _ t)) (p ((bytes_eq-Decides w a).0 t)))
      (λ f. subst P (sym (cond-false (bytes_eq w a) _ _ f))
      (⊎_elim (λ t. subst P (sym (cond-true (bytes_eq w b) _ _ t)) (q ((bytes_eq-Decides w b).0 t)))
      (λ g. subst P (sym (cond-false (bytes_eq w b) _ _ g)) (r (cond-false (bytes_eq w a) _ _ f ∙ cond-false (bytes_eq w b) _ _ g))) (cases_Bool (bytes_eq w b))))
      (cases_Bool (bytes_eq w a))

-- a text has a first piece
first_piece : (cut : ℕ → Bool) (ys : List ℕ) → (q : List ℕ) × ((qs : List (List ℕ)) × (pieces cut ys ≡ q ∷ qs))
first_piece cut [] = ([], ([], refl))
first_piece cut (y ∷ ys) =
    ⊎_elim (λ t. ([], (pieces cut ys, cond-true (cut y) _ _ t)))
    (λ f. let p = first_piece cut ys in (y ∷ p.0, (p.1.0, cond-false (cut y) _ _ f ∙ ap (onto y) p.1.1)))
    (cases_Bool (cut y))

-- no slash, by places
pub no_slash : (xs : List ℕ) → ((i : ℕ) → i < length xs → get_or xs i 0 ≡ 47 → ⊥) → AllByRecursion (λ b. slash b ≡ false) xs
no_slash xs h = All-from_get_or (λ b. slash b ≡ false) xs 0 (λ i l. ne_eqb (get_or xs i 0) 47 (h i l))

-- what `split_once` cuts a word into at its first slash
pub split_some : (w : List ℕ) (r : Option (Bor (List ℕ) × Bor (List ℕ))) (x : Bor (List ℕ) × Bor (List ℕ)) → IsSplitOnceResult 47 w r → r ≡ Some x → (w ≡ x.0.now ++ 47 ∷ x.1.now) × AllByRecursion (λ b. slash b ≡ false) x.0.now
split_some w r x h e = let parts = MatchOption-at_some _ _ _ e (split_parts 47 w r h (omega arith)) in (parts.0, no_slash x.0.now parts.1)

-- a word with a slash: a layer over a stack
module _ (w top below : List ℕ) (e : w ≡ top ++ 47 ∷ below) (clean : AllByRecursion (λ b. slash b ≡ false) top) where
  cut_once : (layers : ℕ) → stacked layers (pieces slash w) ≡ stacked layers (top ∷ pieces slash below)
  cut_once layers = ap (λ l. stacked layers (pieces slash l)) e ∙ ap (stacked layers) (pieces_at_lem slash top below 47 clean refl)

  -- for which there is no room
  pub stacked_none : (layers : ℕ) → layers ≡ 0 → stacked layers (pieces slash w) ≡ None
  stacked_none layers z =
      let p = first_piece slash below in
      cut_once layers ∙ ap (λ n. stacked n (top ∷ pieces slash below)) z ∙ ap (λ ps. stacked 0 (top ∷ ps)) p.1.1

  pub stacked_over : (layers n : ℕ) → layers ≡ suc n → stacked layers (pieces slash w) ≡ over (layer_of top) (stacked n (pieces slash below))
  stacked_over layers n more =
      let p = first_piece slash below in
      cut_once layers ∙ ap (λ m. stacked m (top ∷ pieces slash below)) more
      ∙ ap (λ ps. stacked (suc n) (top ∷ ps)) p.1.1 ∙ ap (λ ps. over (layer_of top) (stacked n ps)) (sym p.1.1)

pub over_none : (o : Option Layer) → over o None ≡ None
over_none None = refl
over_none (Some l) = refl

-- a word with none: a base
pub stacked_base : (n : ℕ) (w : List ℕ) → AllByRecursion (λ b. slash b ≡ false) w → stacked n (pieces slash w) ≡ of_base (base_of w)
stacked_base zero w clean = ap (stacked zero) (pieces_whole slash w clean)
stacked_base (suc n) w clean = ap (stacked (suc n)) (pieces_whole slash w clean)

-- the pieces of a word, put together again
rejoined_more : (b : ℕ) (bs q : List ℕ) (qs : List (List ℕ)) → pieces slash bs ≡ q ∷ qs → slashed (q ∷ qs) ≡ bs → slashed (pieces slash (b ∷ bs)) ≡ b ∷ bs
rejoined_more b bs q qs e rest = ⊎_elim at_slash inside (cases_Bool (slash b))
  where
    front : (rs : List (List ℕ)) → slashed (onto b (q ∷ rs)) ≡ b ∷ slashed (q ∷ rs)
    front [] = refl
    front (r ∷ rs) = refl

    at_slash : slash b ≡ true → slashed (pieces slash (b ∷ bs)) ≡ b ∷ bs
    at_slash t = ap slashed (cond-true (slash b) _ _ t ∙ ap (λ ps. [] ∷ ps) e) ∙ (λ i. sym (eqb-true b 47 t) i ∷ rest i)

    inside : slash b ≡ false → slashed (pieces slash (b ∷ bs)) ≡ b ∷ bs
    inside f = ap slashed (cond-false (slash b) _ _ f ∙ ap (onto b) e) ∙ front qs ∙ ap (λ l. b ∷ l) rest

rejoined : (w : List ℕ) → slashed (pieces slash w) ≡ w
rejoined [] = refl
rejoined (b ∷ bs) = let p = first_piece slash bs in rejoined_more b bs p.0 p.1.0 p.1.1 (ap slashed (sym p.1.1) ∙ rejoined bs)

-- the last name of a word is a base, or the word writes no stack
pub base_alone : (w : List ℕ) → stacked 0 (pieces slash w) ≡ of_base (base_of w)
base_alone w =
    choice_cases w (codes "multipliers") (codes "look-up") Multipliers LookUp (λ o. stacked 0 (pieces slash w) ≡ of_base o)
    (λ e. ap (λ l. stacked 0 (pieces slash l)) e) (λ e. ap (λ l. stacked 0 (pieces slash l)) e) (λ none. alone none (pieces slash w) (rejoined w))
  where
    alone : base_of w ≡ None → (ps : List (List ℕ)) → slashed ps ≡ w → stacked 0 ps ≡ None
    alone none [] e = refl
    alone none (p ∷ []) e = ap (λ l. of_base (base_of l)) e ∙ ap of_base none
    alone none (p ∷ q ∷ ps) e = refl

-- names that write a stack are the stack's
none_some : {X : Type 0} {x : X} → None ≡ Some x → ⊥
none_some h = let z : ◌≡◌ {A = ℕ} 0 1 = cc in omega arith

base_name_lem : (w : List ℕ) (b : Base) → base_of w ≡ Some b → w ≡ base_name b
base_name_lem w b =
    choice_cases w (codes "multipliers") (codes "look-up") Multipliers LookUp (λ o. o ≡ Some b → w ≡ base_name b)
    (λ e h. let k : Multipliers ≡ b = cc in e ∙ ap base_name k) (λ e h. let k : LookUp ≡ b = cc in e ∙ ap base_name k) (λ _ h. absurd (none_some h))

layer_name_lem : (w : List ℕ) (l : Layer) → layer_of w ≡ Some l → w ≡ layer_name l
layer_name_lem w l =
    choice_cases w (codes "cut") (codes "split") Cut Split (λ o. o ≡ Some l → w ≡ layer_name l)
    (λ e h. let k : Cut ≡ l = cc in e ∙ ap layer_name k) (λ e h. let k : Split ≡ l = cc in e ∙ ap layer_name k) (λ _ h. absurd (none_some h))

names_base : (w : List ℕ) (o : Option Base) (s : Stack) → ((b : Base) → o ≡ Some b → w ≡ base_name b) → of_base o ≡ Some s → w ∷ [] ≡ names s
names_base w None s p h = absurd (none_some h)
names_base w (Some b) s p h = let k : Bare b ≡ s = cc in ap (λ l. l ∷ []) (p b refl) ∙ ap names k

names_over : (w : List ℕ) (vs : List (List ℕ)) (o : Option Layer) (t : Option Stack) (s : Stack) → ((l : Layer) → o ≡ Some l → w ≡ layer_name l) → ((u : Stack) → t ≡ Some u → vs ≡ names u) → over o t ≡ Some s → w ∷ vs ≡ names s
names_over w vs None t s p q h = absurd (none_some h)
names_over w vs (Some l) None s p q h = absurd (none_some h)
names_over w vs (Some l) (Some (Bare b)) s p q h = let k : Single l b ≡ s = cc in (λ i. p l refl i ∷ q (Bare b) refl i) ∙ ap names k
names_over w vs (Some l) (Some (Single m b)) s p q h = let k : Double l m b ≡ s = cc in (λ i. p l refl i ∷ q (Single m b) refl i) ∙ ap names k
names_over w vs (Some l) (Some (Double m n b)) s p q h = absurd (none_some h)

names_of : (n : ℕ) (ps : List (List ℕ)) (s : Stack) → stacked n ps ≡ Some s → ps ≡ names s
names_of n [] s h = absurd (none_some h)
names_of zero (w ∷ []) s h = names_base w (base_of w) s (base_name_lem w) h
names_of (suc n) (w ∷ []) s h = names_base w (base_of w) s (base_name_lem w) h
names_of zero (w ∷ v ∷ vs) s h = absurd (none_some h)
names_of (suc n) (w ∷ v ∷ vs) s h = names_over w (v ∷ vs) (layer_of w) (stacked n (v ∷ vs)) s (layer_name_lem w) (λ u e. names_of n (v ∷ vs) u e) h

back : (s : Stack) → stack_of (stack_text s) ≡ Some s
unfolding stack_of
back (Bare Multipliers) = refl
back (Bare LookUp) = refl
back (Single Cut Multipliers) = refl
back (Single Cut LookUp) = refl
back (Single Split Multipliers) = refl
back (Single Split LookUp) = refl
back (Double Cut Cut Multipliers) = refl
back (Double Cut Cut LookUp) = refl
back (Double Cut Split Multipliers) = refl
back (Double Cut Split LookUp) = refl
back (Double Split Cut Multipliers) = refl
back (Double Split Cut LookUp) = refl
back (Double Split Split Multipliers) = refl
back (Double Split Split LookUp) = refl

only : (w : List ℕ) (s : Stack) → stack_of w ≡ Some s → w ≡ stack_text s
unfolding stack_of
only w s h = sym (rejoined w) ∙ ap slashed (names_of 2 (pieces slash w) s h)

pub stacks_read : StacksRead
stacks_read = record { back = back; only = only }
