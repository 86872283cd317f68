-- The text of a reply.
use Rattle.std.specs.Prelude.{ℕ, List, length}
use Rattle.text.specs.declared.reply.Reply.{Reply}

abbrev pub text_of : Reply → List ℕ
text_of r = r.text.bytes

-- how many bytes it has
abbrev pub size_of : Reply → ℕ
size_of r = length (text_of r)
