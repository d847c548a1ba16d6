-- Records with equal parts are equal.
use Rattle.std.proofs.Common.{◌≡◌, ℕ, List}
use Rattle.rows.specs.declared.numbers.Numbers.{Numbers}
use Rattle.records.specs.Records.{HeadingData, TransitionData, EntryData, PlaceData, InnerData}
use Rattle.sequences.specs.Handed.{ReaderData}
use Rattle.formats.specs.Walks.{PieceData}
use Rattle.formats.specs.Witnesses.{Progress}

pub same_heading : {a b c d e f : ℕ} {g h : List Numbers} → a ≡ b → c ≡ d → e ≡ f → g ≡ h → ◌≡◌ {A = HeadingData} (record { values = a; choices = c; start = e; initial = g }) (record { values = b; choices = d; start = f; initial = h })
same_heading p q r s = rw (p, q, r, s)

pub same_transition : {a b c d e f : ℕ} {g h i j : List Numbers} → a ≡ b → c ≡ d → e ≡ f → g ≡ h → i ≡ j → ◌≡◌ {A = TransitionData} (record { number = a; start = c; target = e; guard = g; updates = i }) (record { number = b; start = d; target = f; guard = h; updates = j })
same_transition p q r s t = rw (p, q, r, s, t)

pub same_entry : {a b : ℕ} {g h : Numbers} → a ≡ b → g ≡ h → ◌≡◌ {A = EntryData} (record { transition = a; test = g }) (record { transition = b; test = h })
same_entry p q = rw (p, q)

pub same_place : {a b c d : ℕ} {g h : List Numbers} {i j : List EntryData} → a ≡ b → g ≡ h → i ≡ j → c ≡ d → ◌≡◌ {A = PlaceData} (record { number = a; condition = g; tested = i; last = c }) (record { number = b; condition = h; tested = j; last = d })
same_place p q r s = rw (p, q, r, s)

pub same_inner : {a b : ℕ} {g h i j : List Numbers} → a ≡ b → g ≡ h → i ≡ j → ◌≡◌ {A = InnerData} (record { number = a; restrictions = g; choices = i }) (record { number = b; restrictions = h; choices = j })
same_inner p q r = rw (p, q, r)

pub same_piece : {a b : ℕ} {g h : List ℕ} → a ≡ b → g ≡ h → ◌≡◌ {A = PieceData} (record { offset = a; rest = g }) (record { offset = b; rest = h })
same_piece p q = rw (p, q)

pub same_reader : {a b : ℕ} {g : List ℕ} → a ≡ b → ◌≡◌ {A = ReaderData} (record { bytes = g; at = a }) (record { bytes = g; at = b })
same_reader p = rw p

pub same_progress : {a b c d : List ℕ} → a ≡ b → c ≡ d → ◌≡◌ {A = Progress} (record { places = a; inners = c }) (record { places = b; inners = d })
same_progress p q = rw (p, q)
