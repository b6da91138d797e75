-- Calls made one by one: what is left gives the whole. Assumes nothing.
use Rattle.std.proofs.Common.{◌≡◌, ℕ, ◌+◌, ◌<◌, ◌≤◌, List, [], ◌∷◌, ◌++◌, map, length, get_or, take, drop, set, Result, sym, ap, ◌∙◌, append_assoc, append-nil, arith, length-set, take-append-drop}
use Rattle.std.proofs.lemmas.List.{drop-map, drop_more, drop_all, length-map, take_more_set, drop-set-lt, drop-drop, length-take-le}
use Rattle.mapping.specs.Memory.{over}
use Rattle.workbook.specs.declared.faults.WorkbookFault.{WorkbookFault}
use Rattle.workbook.specs.States.{Made, State}
use Rattle.rows.specs.declared.Call.{Call}
use Rattle.rows.specs.Rows.{Step, step_of, answer_to, after_step, row_answers, after_row}

module _ {Cell : Type 0} (D : Made Cell) (s₀ : State Cell) (row : List Call) (before : List (Result ℕ WorkbookFault)) where
  abbrev steps : List Step
  steps = map step_of row

  -- the first i calls are made
  pub record Going (D' : Made Cell) (s : State Cell) (answers : List (Result ℕ WorkbookFault)) (i : ℕ) : Type 0 where
    pub made : D' ≡ D
    pub front : take i answers ++ row_answers D s (drop i steps) ≡ row_answers D s₀ steps
    pub back : drop i answers ≡ drop i before
    pub after : after_row D s (drop i steps) ≡ after_row D s₀ steps
    pub long : length answers ≡ length before

  module _ (D' : Made Cell) (s : State Cell) (answers : List (Result ℕ WorkbookFault)) (i : ℕ) (h : Going D' s answers i) where
    pub going_more : (d : Call) (a : Result ℕ WorkbookFault) (s' : State Cell) (D'' : Made Cell) → i < length row → i < length before →
        a ≡ answer_to D' s (step_of (get_or row i d)) → s' ≡ after_step D' s (step_of (get_or row i d)) → D'' ≡ D' →
        Going D'' s' (set answers i a) (i + 1)
    going_more d a s' D'' within below said left same =
        let call = step_of (get_or row i d) in
        let rest : drop i steps ≡ call ∷ drop (i + 1) steps = drop-map step_of i row ∙ ap (map step_of) (drop_more row i d within) ∙ ap (λ xs. call ∷ xs) (sym (drop-map step_of (i + 1) row)) in
        let a-is : a ≡ answer_to D s call = said ∙ ap (λ (x : Made Cell). answer_to x s call) h.made in
        let s-is : s' ≡ after_step D s call = left ∙ ap (λ (x : Made Cell). after_step x s call) h.made in
        record {
          made = same ∙ h.made;
          front =
              ap (λ xs. xs ++ row_answers D s' (drop (i + 1) steps)) (take_more_set answers i a (omega (arith, h.long)))
              ∙ append_assoc (take i answers) (a ∷ []) (row_answers D s' (drop (i + 1) steps))
              ∙ (λ j. take i answers ++ (a-is j ∷ row_answers D (s-is j) (drop (i + 1) steps)))
              ∙ ap (λ (xs : List Step). take i answers ++ row_answers D s xs) (sym rest)
              ∙ h.front;
          back = drop-set-lt (i + 1) answers i a (omega arith) ∙ sym (drop-drop 1 i answers) ∙ ap (drop 1) h.back ∙ drop-drop 1 i before;
          after = ap (λ (x : State Cell). after_row D x (drop (i + 1) steps)) s-is ∙ ap (after_row D s) (sym rest) ∙ h.after;
          long = length-set answers i a ∙ h.long;
        }

    pub going_all : i ≡ length row → length row ≤ length before → (s ≡ after_row D s₀ steps) × (answers ≡ over (row_answers D s₀ steps) before)
    going_all all fits =
        let none : drop i steps ≡ [] = drop_all i steps (omega (arith, length-map row step_of)) in
        let front : take i answers ≡ row_answers D s₀ steps = sym (append-nil (take i answers)) ∙ ap (λ (xs : List Step). take i answers ++ row_answers D s xs) (sym none) ∙ h.front in
        let long : length (row_answers D s₀ steps) ≡ i = sym (ap length front) ∙ length-take-le i answers (omega (arith, h.long)) in (
          ap (after_row D s) (sym none) ∙ h.after,
          sym (take-append-drop i answers) ∙ (λ j. front j ++ h.back j) ∙ ap (λ (n : ℕ). row_answers D s₀ steps ++ drop n before) (sym long),
        )
