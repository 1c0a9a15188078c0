-- `line::show` meets its contract: what is asked is the question, and the newline is put behind the words.
use Rattle.std.proofs.Common.{arith, ap, rules, length, ◌++◌, ◌∷◌, []}
use Rattle.text.specs.Characters.{newline}
use Rattle.text.proofs.Pages.{wrote_as, wrote_then, wrote_from_start}
use Rattle.pack.specs.Line.{words, line, line_room}
use Rattle.packs.specs.Question.{PackTold}
use Rattle.pack.proofs.line.show.Goals as goal

pub returns : goal.returns
unfolding line
returns c =
    let asked = ap (λ (told : PackTold). words told ++ (newline ∷ [])) c.ask.ensures in
    let room = ap length c.new-page.ensures.bytes in
    let put = wrote_then c.put_words.ensures (omega (arith, room, c.fits-out)) c.push.ensures in
    wrote_from_start (wrote_as put {s = line_room} asked (omega arith)) c.new-page.ensures.bytes c.new-page.ensures.len c.len.ensures (search rules)
