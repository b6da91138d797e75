-- What is collected where a call gives an item or none, and its value is known only by what it says. Assumes nothing.
use Rattle.std.proofs.Common.{◌≡◌, true, List, [], ◌∷◌, ◌++◌, map, Some, None, Ok, Err, Option, Result, Vec, vec_items, IfOk, sym, refl, ap, ◌∙◌, subst}
use denote.Param.Members.{Mut}
use Rattle.std.proofs.lemmas.Option.{none-some}
use Rattle.std.proofs.lemmas.Iterator.{YieldsList, IsCollectResult}
use Rattle.std.specs.Fn.{Called}
use Rattle.std.specs.Iterator.{AlwaysYields, Yields, Drains}
use Rattle.std.specs.Iterator.Adapters.{filter_map_source, filter_map_callee, filter_map_steps}
use Rattle.std.specs.List.{FoldsTo, flat_map}
use Rattle.std.specs.Option.{MatchOption, IsSome, is_some, option_to_list}
use Rattle.std.specs.declared.iter.FilterMap.{FilterMap}

module _ {S A B C F W : Type 0} (steps : S → Option A → S → Type 0) (v : A → B) (g : Mut F (A × Unit {0}) (Option C)) (view : C → W) (h : B → List W) (f : F)
    (calls : (x : A) (r : Option C) (q : F) → Called g f (x, tt) r q → (q ≡ f) × (h (v x) ≡ map view (option_to_list r))) where
  -- items that give none say nothing
  skipped : (xs : List A) (all : List B) (s t : S) (p q : F) → p ≡ f → AlwaysYields steps v s all → Yields steps s xs t → FoldsTo (λ w x u. Called g w (x, tt) None u) p xs q
      → (more : List B) × (q ≡ f) × (flat_map h all ≡ flat_map h more) × AlwaysYields steps v t more
  skipped [] all s t p q same yields went folds = (all, sym folds ∙ same, refl, subst (λ (u : S). AlwaysYields steps v u all) went yields)
  skipped (x ∷ xs) [] s t p q same yields went folds = absurd (yields x went.0 went.1)
  skipped (x ∷ xs) (b ∷ all) s t p q same yields went folds =
      let item = yields.1 x went.0 went.1 in
      let none = calls x None folds.0 (subst (λ (w : F). Called g w (x, tt) None folds.0) same folds.1) in
      let m = skipped xs all went.0 t folds.0 q none.0 item.1 went.2 folds.2 in
      (m.0, m.1, (λ i. h (sym item.0 i) ++ flat_map h all) ∙ ap (λ (ws : List W). ws ++ flat_map h all) none.1 ∙ m.2, m.3)

  -- an item that gives one
  given : (all : List B) (s u : S) (w q : F) (c : C) (o : Option A) → w ≡ f → AlwaysYields steps v s all → steps s o u → MatchOption o ((Some c ≡ None) × (q ≡ w)) (λ x. Called g w (x, tt) (Some c) q × IsSome (Some c))
      → (more : List B) × (q ≡ f) × (flat_map h all ≡ view c ∷ flat_map h more) × AlwaysYields steps v u more
  given all s u w q c None same yields next gave = absurd (none-some c (sym gave.0))
  given [] s u w q c (Some x) same yields next gave = absurd (yields x u next)
  given (b ∷ all) s u w q c (Some x) same yields next gave =
      let item = yields.1 x u next in
      let some = calls x (Some c) q (subst (λ (p : F). Called g p (x, tt) (Some c) q) same gave.0) in
      (all, some.0, (λ i. h (sym item.0 i) ++ flat_map h all) ∙ ap (λ (ws : List W). ws ++ flat_map h all) some.1, item.1)

  -- the end
  nothing : (all : List B) (s u : S) (w q : F) (o : Option A) → AlwaysYields steps v s all → steps s o u → MatchOption o ((◌≡◌ {A = Option C} None None) × (q ≡ w)) (λ x. Called g w (x, tt) None q × IsSome {T = C} None) → [] ≡ flat_map h all
  nothing [] s u w q None yields next gave = refl
  nothing (b ∷ all) s u w q None yields next gave = absurd (yields.0 u next)
  nothing all s u w q (Some x) yields next gave = let no : is_some {T = C} None ≡ true = gave.1 in absurd (cc)

  picked_more : (cs : List C) (s : FilterMap S F) (all : List B) → filter_map_callee s ≡ f → AlwaysYields steps v (filter_map_source s) all → Drains (filter_map_steps steps g) s cs → map view cs ≡ flat_map h all
  picked_more [] s all same yields drains =
      let k = subst (λ (t : FilterMap S F). filter_map_steps steps g t None drains.0) (sym drains.1.1) drains.1.2 in
      let more = skipped k.0 all (filter_map_source s) k.3.0 (filter_map_callee s) k.2 same yields k.3.1 k.4 in
      nothing more.0 k.3.0 (filter_map_source drains.0) k.2 (filter_map_callee drains.0) k.1 more.3 k.3.2 k.5 ∙ sym more.2
  picked_more (c ∷ cs) s all same yields drains =
      let j = drains.1.1.0 in
      let k = drains.1.1.1 in
      let more = skipped k.0 all (filter_map_source s) k.3.0 (filter_map_callee s) k.2 same yields k.3.1 k.4 in
      let item = given more.0 k.3.0 (filter_map_source j) k.2 (filter_map_callee j) c k.1 more.1 more.3 k.3.2 k.5 in
      ap (λ (ws : List W). view c ∷ ws) (picked_more cs j item.0 item.1 item.3 (drains.0, (drains.1.0, drains.1.1.2, drains.1.2))) ∙ sym (more.2 ∙ item.2)

  module _ {Z E : Type 0} where
    pub picked : (s : FilterMap S F) (all : List B) (w : Result (Vec C Z) E) → IsCollectResult (filter_map_steps steps g) s w → YieldsList steps v (filter_map_source s) all → filter_map_callee s ≡ f
        → IfOk w (λ a. map view (vec_items a) ≡ flat_map h all)
    picked s all (Err e) ran yields same = tt
    picked s all (Ok a) ran yields same = let end = ran.1.2 tt in ap (map view) ran.2.0 ∙ picked_more ran.0 s all same yields.runs (end.0, (ran.1.0, ran.1.1, end.1))
