-- The records of lines, put in one line after another.
use Rattle.std.proofs.Common.{◌≡◌, ℕ, List, [], ◌∷◌, ◌++◌, refl, ap, subst, sym, ◌∙◌, append_assoc, append-nil}
use Rattle.hickory_proto_core.specs.Records.{RecordValue}
use Rattle.trace_lines.specs.HostRecords.{AreOfLine, AreOfLines}

-- what was put in is the records of these lines, but for those of the rest
abbrev pub ArePutFrom : List (List ℕ) → List (List ℕ) → List RecordValue → List RecordValue → Type 0
ArePutFrom all rest before now =
    (records : List RecordValue) × (now ≡ before ++ records)
    × ((more : List RecordValue) → AreOfLines rest more → AreOfLines all (records ++ more))

pub none_put : (all : List (List ℕ)) (before : List RecordValue) → ArePutFrom all all before before
none_put all before = ([], sym (append-nil before), λ more are. are)

pub line_put : (all rest behind : List (List ℕ)) (line : List ℕ) (before now after first : List RecordValue)
    → rest ≡ line ∷ behind → ArePutFrom all rest before now → AreOfLine line first → after ≡ now ++ first
    → ArePutFrom all behind before after
line_put all rest behind line before now after first is put are added = (
  put.0 ++ first,
  added ∙ ap (λ l. l ++ first) put.1 ∙ append_assoc before put.0 first,
  λ more of_rest. subst (AreOfLines all) (sym (append_assoc put.0 first more))
      (put.2 (first ++ more) (subst (λ ls. AreOfLines ls (first ++ more)) (sym is) (first, more, are, of_rest, refl))),
)

pub all_put : (all rest : List (List ℕ)) (before now : List RecordValue) → rest ≡ [] → ArePutFrom all rest before now
    → (records : List RecordValue) × AreOfLines all records × (now ≡ before ++ records)
all_put all rest before now end put = (
  put.0,
  subst (AreOfLines all) (append-nil put.0) (put.2 [] (subst (λ ls. AreOfLines ls []) (sym end) refl)),
  put.1,
)
