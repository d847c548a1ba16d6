-- A plan takes the transition of the first entry whose test is met, as a search finds it, else the last.
use Rattle.std.proofs.Common.{◌≡◌, ℕ, Bool, true, false, cond, List, [], ◌∷◌, map, ℤ, Some, Option, unwrap_or, refl}
use Rattle.std.specs.List.{find}
use Rattle.std.specs.Option.{option_map}
use Rattle.records.specs.declared.records.PlanEntry.{PlanEntry}
use Rattle.records.specs.Records.{entry_of}
use Rattle.semantics.specs.Plans.{meets, planned}

pub planned_found : (point : List ℤ) (es : List PlanEntry) (last : ℕ) → unwrap_or (option_map (λ (e : PlanEntry). e.transition) (find (λ (e : PlanEntry). meets point (entry_of e).test) es)) last ≡ planned point (map entry_of es) last
planned_found point [] last = refl
planned_found point (e ∷ es) last = by_test (meets point (entry_of e).test) _ _ (planned_found point es last)
  where
    by_test : (b : Bool) (o : Option PlanEntry) (n : ℕ) → unwrap_or (option_map (λ (x : PlanEntry). x.transition) o) last ≡ n → unwrap_or (option_map (λ (x : PlanEntry). x.transition) (cond b (Some e) o)) last ≡ cond b e.transition n
    by_test true o n h = refl
    by_test false o n h = h
