use Rattle.std.proofs.Common.{map, ap, sym, ◌∙◌, inl}
use Rattle.std.specs.Char.{to_ascii_lowercase}
use Rattle.std.specs.Str.{chars}
use Rattle.hickory_resolver_hosts.proofs.FieldTexts.{ascii_chars, chars_of_ascii, past_ascii, is_ascii_text, is_past_ascii, lower_parts, named_by}
use Rattle.hickory_resolver_hosts.proofs.lines.host_name.Goals as goal

pub returns-then-is_lower_ascii : goal.returns-then-is_lower_ascii
returns-then-is_lower_ascii c =
    let parts = lower_parts c.args.field.now (sym c.is_lower_ascii.ensures ∙ c.if-is_lower_ascii.true) in
    named_by (chars c.args.field.now) c.args.field.now _ (ascii_chars c.args.field.now c.utf8.field parts.0)
    (parts.1 ∙ ap (map to_ascii_lowercase) (sym (chars_of_ascii c.args.field.now c.utf8.field parts.0))) c.name_of.ensures

pub returns-then-not-is_ascii : goal.returns-then-not-is_ascii
returns-then-not-is_ascii c = inl (past_ascii c.args.field.now c.utf8.field (is_past_ascii _ c.args.field.now c.is_ascii.ensures.cases c.if-not-is_ascii.true))

pub returns : goal.returns
returns c =
    let plain = is_ascii_text _ c.args.field.now c.is_ascii.ensures.cases c.if-not-is_ascii.false in
    named_by (chars c.args.field.now) c.deref.result.now _ (ascii_chars c.args.field.now c.utf8.field plain)
    (c.deref.ensures ∙ c.make_ascii_lowercase.ensures.bytes ∙ ap (map to_ascii_lowercase) (c.in_ok-text.ensures.ok ∙ sym (chars_of_ascii c.args.field.now c.utf8.field plain))) c.name_of-2.ensures
