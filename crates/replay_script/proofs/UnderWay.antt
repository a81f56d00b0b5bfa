-- A script of which some lines are read.
use Rattle.std.proofs.Common.{◌≡◌, ◌≤◌, ◌+◌, ℕ, Bool, true, false, List, [], ◌∷◌, ◌++◌, length, None, Result, refl, ap, arith, ◌==◌, cond}
use Rattle.std.proofs.lemmas.List.Splits.{length-slice_split}
use Rattle.std.proofs.lemmas.List.Sums.{count_by-le-length}
use Rattle.std.specs.List.{slice_split}
use Rattle.std.specs.Option.{is_some}
use Rattle.std.specs.Str.Lines.{lines, lines_of_parts}
use Rattle.replay_script.specs.Script.{AreRead}
use Rattle.replay_script.specs.Reader.{ReaderValue, Keeps, opened}
use Rattle.replay_script.specs.Configuration.{configured}
use Rattle.replay_script.specs.declared.fault.ScriptError.{ScriptError}
use Rattle.replay_script.specs.declared.line.Line.{Line}

-- the lines that are read said this, and the others are still to be read
pub record UnderWay (reader : ReaderValue) (number : ℕ) (script : List ℕ) (others : List (List ℕ)) : Type 0 where
  pub said : List Line
  pub kept : Keeps reader said
  pub count : number ≡ length said
  pub room : length said + length others ≤ length script + 1
  pub on : (result : Result (List Line) ScriptError) → AreRead said others result → AreRead [] (lines script) result

last_le : (b : Bool) (x : List ℕ) → length (cond b [] (x ∷ [])) ≤ 1
last_le true x = omega arith
last_le false x = omega arith

parts_le : (parts : List (List ℕ)) → length (lines_of_parts parts) ≤ length parts
parts_le [] = omega arith
parts_le (x ∷ []) = last_le (length x == 0) x
parts_le (x ∷ y ∷ more) = let rest = parts_le (y ∷ more) in omega arith

lines_le : (bs : List ℕ) → length (lines bs) ≤ length bs + 1
lines_le bs = omega (arith, parts_le (slice_split (λ b. b == 10) bs), length-slice_split (λ b. b == 10) bs, count_by-le-length (λ b. b == 10) bs)

pub begun : (reader : ReaderValue) (script : List ℕ) → reader ≡ record { closed = []; open_reply = None; requests = []; latest = 0; configuration = configured [] } → UnderWay reader 0 script (lines script)
begun reader script new = record {
  said = [];
  kept = record {
    outcomes_are = ap (λ r. r.closed ++ opened r.open_reply) new;
    requests_are = ap (λ r. r.requests) new;
    reply_is = ap (λ r. is_some r.open_reply) new;
    latest_is = ap (λ r. r.latest) new;
    configuration_is = ap (λ r. r.configuration) new;
  };
  count = refl;
  room = omega (arith, lines_le script);
  on = λ result h. h;
}
