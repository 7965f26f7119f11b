-- The events of a whole record.
use Rattle.std.proofs.Common.{ℕ, List, [], ◌∷◌, ◌++◌, true, false, refl, sym, subst}
use Rattle.std.specs.List.{AllByRecursion}
use Rattle.mos_fields.specs.Characters.{Text}
use Rattle.mos_tables.specs.declared.table.Table.{Table}
use Rattle.mos_tables.specs.Events.{Event}
use Rattle.mos_grammar.specs.Tokens.{Token, open_tag, empty_tag, close_tag, text, tail, mark, declaration}
use Rattle.mos_grammar.specs.Records.{arranged, nested, IsRecord}
use Rattle.mos_lexer.specs.Lexing.{Written, WrittenTag, WritesTokens}
use Rattle.mos_cursor.specs.Accepted.{IsWritten, IsWhole}
use Rattle.mos_cursor.proofs.Children.{written_split}

pub whole_record_law : (t : Table) (n : Text) (v : List Event) (ts : List Token) → IsRecord t n v ts → AllByRecursion IsWritten ts → IsWhole t n v
unfolding nested
whole_record_law t n v ts r w =
    let a : AllByRecursion IsWritten (r.1 ++ close_tag n ∷ []) = subst (AllByRecursion IsWritten) r.3 w in
    record {
      inner = arranged t r.0;
      accepted = record { all = r.0; tokens = r.1; content = r.2; written = (written_split r.1 (close_tag n ∷ []) a).0; value = refl };
      whole = r.4;
    }

written_is : (t : Token) (x : List ℕ) → Written t x → IsWritten t
written_is (open_tag n g raw) x w = subst (WrittenTag false n g raw) (sym w.4) w
written_is (empty_tag n g raw) x w = subst (WrittenTag true n g raw) (sym w.4) w
written_is (close_tag n) x w = tt
written_is (text raw y) x w = tt
written_is (tail y) x w = tt
written_is mark x w = tt
written_is declaration x w = tt

pub written_tags_law : (ts : List Token) (c : List ℕ) → WritesTokens ts c → AllByRecursion IsWritten ts
written_tags_law [] c w = tt
written_tags_law (t ∷ ts) c w = (written_is t w.0 w.2, written_tags_law ts w.1 w.5)
