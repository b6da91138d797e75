-- What a row that has been made prints. Assumes nothing.
use Rattle.std.proofs.Common.{◌≡◌, ℕ, suc, ◌<◌, ◌≤◌, leb, List, [], ◌∷◌, ◌++◌, map, length, get_or, drop, Option, Result, sym, refl, ap, ◌∙◌, append-nil, arith}
use Rattle.std.proofs.lemmas.List.{drop_all, nil_from_length}
use Rattle.std.proofs.lemmas.Slice.{first_rest}
use Rattle.std.proofs.lemmas.Bool.{cond-true, le-leb}
use Rattle.std.specs.List.{between, flat_map}
use Rattle.std.specs.Option.{option_map}
use Rattle.mapping.specs.Meanings.{Meaning}
use Rattle.store.specs.Stores.{Contents}
use Rattle.text_store.specs.ByteStores.{byte_empty}
use Rattle.text_store.specs.Texts.{text_clauses}
use Rattle.workbook.specs.States.{Made, State, new_state}
use Rattle.workbook.specs.declared.faults.WorkbookFault.{WorkbookFault}
use Rattle.rows.specs.Rows.{Step, Done, row_answers, after_row, after_step}
use Rattle.parser.specs.declared.lines.Line.{Line}
use Rattle.parser.specs.Cuts.{lines}
use Rattle.reader.specs.Program.{steps_in, refused_lines, header, buffer, made_by, printed, translated, no_text, by_first, by_lines, output}
use Rattle.parser.specs.Said.{Said, said, said_of}

length_answers : {Cell : Type 0} (D : Made Cell) (s : State Cell) (cs : List Step) → length (row_answers D s cs) ≡ length cs
length_answers D s [] = refl
length_answers D s (c ∷ cs) = ap suc (length_answers D (after_step D s c) cs)

module _ (M : Meaning) (ss : List (Option Said)) (D D' : Made ℕ) (K : Contents ℕ) (steps : List Step) (before after : List (Result ℕ WorkbookFault)) (s : State ℕ) (n : ℕ)
    (done : Done D K steps before after D' s n) (made : D ≡ made_by M) (empty : K ≡ byte_empty buffer) (calls : steps ≡ flat_map steps_in ss) (long : length before ≡ length steps) where
  -- every place has an answer
  answers_are : after ≡ row_answers (made_by M) (new_state (byte_empty buffer)) (flat_map steps_in ss)
  answers_are =
      let all : drop (length (row_answers D (new_state K) steps)) before ≡ [] = drop_all _ before (omega (arith, length_answers D (new_state K) steps)) in
      done.answers ∙ ap (λ (xs : List (Result ℕ WorkbookFault)). row_answers D (new_state K) steps ++ xs) all ∙ append-nil (row_answers D (new_state K) steps)
      ∙ (λ i. row_answers (made i) (new_state (empty i)) (calls i))

  state_is : s ≡ after_row (made_by M) (new_state (byte_empty buffer)) (flat_map steps_in ss)
  state_is = done.state ∙ (λ i. after_row (made i) (new_state (empty i)) (calls i))

  pub translated_is : (answers : List (Result ℕ WorkbookFault)) → answers ≡ after → refused_lines 2 ss answers ++ (header s.page.total n ++ text_clauses s.contents.list) ≡ translated M ss
  translated_is answers same =
      (λ i. refused_lines 2 ss (same i) ++ (header s.page.total (done.clauses i) ++ text_clauses s.contents.list))
      ∙ (λ i. printed ss (answers_are i) (state_is i))

-- the output of an input that is not too long, by its lines
module _ (input : List ℕ) (all xs : List (Option Line)) (short : length input ≤ 16384) (reads : map (option_map said_of) all ≡ map said (lines input)) (lent : xs ≡ all) where
  output_is : output input ≡ by_lines (map (option_map said_of) xs)
  output_is = cond-true (leb (length input) 16384) _ _ (le-leb _ _ short) ∙ ap by_lines (sym reads) ∙ ap (λ (ls : List (Option Line)). by_lines (map (option_map said_of) ls)) (sym lent)

  pub output_none : length xs < 1 → no_text ≡ output input
  output_none none = sym (output_is ∙ ap (λ (ls : List (Option Line)). by_lines (map (option_map said_of) ls)) (nil_from_length xs (omega arith)))

  pub output_some : (first : Option Line) → 0 < length xs → first ≡ get_or xs 0 first → by_first (option_map said_of first) (map (option_map said_of) (between 1 (length xs) xs)) ≡ output input
  output_some first some read =
      sym (output_is ∙ ap (λ (ls : List (Option Line)). by_lines (map (option_map said_of) ls)) (first_rest xs first some) ∙ ap (λ (l : Option Line). by_first (option_map said_of l) (map (option_map said_of) (between 1 (length xs) xs))) (sym read))
