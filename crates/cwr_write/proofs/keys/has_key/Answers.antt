use Rattle.std.proofs.Common.{List, ℕ, ◌∙◌, ap}
use Rattle.std.specs.Str.{bytes_eq}
use Rattle.cwr_json.specs.Format.Forms.{key_of}
use Rattle.cwr_write.proofs.lemmas.KeysOfNames.{has_named, has_none}
use Rattle.cwr_write.proofs.keys.has_key.Goals as goal

pub returns-in-Some : goal.returns-in-Some
returns-in-Some c =
    c.is_key_of.ensures ∙ ap (λ (n : List ℕ). bytes_eq c.args.key.now (key_of n)) c.as_bytes.ensures.value
    ∙ has_named c.args.kind c.args.j c.args.key.now c.in-Some.place c.field.result c.field.ensures c.in-Some.is

pub returns-in-None : goal.returns-in-None
returns-in-None c = has_none c.args.kind c.args.j c.args.key.now _ c.field.ensures c.in-None.is
