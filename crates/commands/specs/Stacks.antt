-- Stacks of proof methods as they are written: top first, with a slash between, and at most two layers over a base.
use Rattle.std.specs.Prelude.{◌≡◌, ℕ, zero, suc, Bool, List, [], ◌∷◌, ◌++◌, Some, None, codes, Option, ◌==◌}
use Rattle.words.specs.Words.{pieces}
use Rattle.commands.specs.declared.stacks.Base.{Base}
use Rattle.commands.specs.declared.stacks.Base.TheVariants.{Multipliers, LookUp}
use Rattle.commands.specs.declared.stacks.Layer.{Layer}
use Rattle.commands.specs.declared.stacks.Layer.TheVariants.{Cut, Split}
use Rattle.commands.specs.declared.stacks.Stack.{Stack}
use Rattle.commands.specs.declared.stacks.Stack.TheVariants.{Bare, Single, Double}
use Rattle.commands.specs.Names.{named}

abbrev pub slash : ℕ → Bool
slash b = b == 47

-- a base and a layer by name
abbrev pub base_of : List ℕ → Option Base
base_of = named ((codes "multipliers", Multipliers) ∷ (codes "look-up", LookUp) ∷ [])

abbrev pub layer_of : List ℕ → Option Layer
layer_of = named ((codes "cut", Cut) ∷ (codes "split", Split) ∷ [])

-- a layer over a stack, if there is room for it
abbrev pub over : Option Layer → Option Stack → Option Stack
over None s = None
over (Some l) None = None
over (Some l) (Some (Bare b)) = Some (Single l b)
over (Some l) (Some (Single m b)) = Some (Double l m b)
over (Some l) (Some (Double m n b)) = None

abbrev pub of_base : Option Base → Option Stack
of_base None = None
of_base (Some b) = Some (Bare b)

-- names, top first, of at most so many layers and a base
abbrev pub stacked : ℕ → List (List ℕ) → Option Stack
stacked layers [] = None
stacked layers (w ∷ []) = of_base (base_of w)
stacked zero (w ∷ v ∷ vs) = None
stacked (suc layers) (w ∷ v ∷ vs) = over (layer_of w) (stacked layers (v ∷ vs))

-- the stack that a word writes
unfoldable pub stack_of : List ℕ → Option Stack
stack_of w = stacked 2 (pieces slash w)

-- a stack written
abbrev pub base_name : Base → List ℕ
base_name Multipliers = codes "multipliers"
base_name LookUp = codes "look-up"

abbrev pub layer_name : Layer → List ℕ
layer_name Cut = codes "cut"
layer_name Split = codes "split"

abbrev pub names : Stack → List (List ℕ)
names (Bare b) = base_name b ∷ []
names (Single l b) = layer_name l ∷ base_name b ∷ []
names (Double l m b) = layer_name l ∷ layer_name m ∷ base_name b ∷ []

abbrev pub slashed : List (List ℕ) → List ℕ
slashed [] = []
slashed (w ∷ []) = w
slashed (w ∷ v ∷ vs) = w ++ 47 ∷ slashed (v ∷ vs)

abbrev pub stack_text : Stack → List ℕ
stack_text s = slashed (names s)

-- every stack that is written is read again, and a word that is read is the one that writes its stack
pub record StacksRead : Type 0 where
  pub back : (s : Stack) → stack_of (stack_text s) ≡ Some s
  pub only : (w : List ℕ) (s : Stack) → stack_of w ≡ Some s → w ≡ stack_text s
