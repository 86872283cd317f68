use Rattle.std.proofs.Common.{◌≡◌, true, false, [], refl, rules}
use Rattle.member_check.specs.Members.{figures_of}
use Rattle.fires.specs.Gauge.{bytes_of}
use Rattle.trial.specs.Calls.{reply}
use Rattle.trial.specs.Views.{new_view}
use Rattle.text.specs.Trials.{parts_in}
use Rattle.text.specs.Turns.{is_refused}
use Rattle.text.specs.Views.{seen}
use Rattle.text.proofs.Opening.{after_new, says_new}
use Rattle.text.proofs.session.State.take_call.Goals as goal
use Rattle.text.proofs.session.State.take_call.Goals.{then-not-is_refused, else-not-is_refused}

pub returns-after-not-is_refused-clause-text : goal.returns-after-not-is_refused-clause-text
returns-after-not-is_refused-clause-text c =
    let p = parts_in (figures_of c.in-Readings.member) (bytes_of c.in-Readings.gauges) in
    let says = says_new p c.args.call _ (c.call-answer.ensures.law p [] c.new-sheet.ensures.law.follows).0 in
    search rules

pub returns-after-not-is_refused-clause-after : goal.returns-after-not-is_refused-clause-after
returns-after-not-is_refused-clause-after c =
    let p = parts_in (figures_of c.in-Readings.member) (bytes_of c.in-Readings.gauges) in
    let law = c.call-answer.ensures.law p [] c.new-sheet.ensures.law.follows in
    let says = says_new p c.args.call _ law.0 in
    let same = after_new p c.args.call (seen c.call-answer.new.self) law.1.follows in
    elim c.if-not-is_refused.branch [
      | then-not-is_refused w ↦
          let opens : is_refused (reply (new_view p) c.args.call) ≡ false = cc in
          rw (c.in-Readings.is, opens, w.self-is) (seen c.call-answer.new.self, refl, same)
      | else-not-is_refused w ↦
          let refused : is_refused (reply (new_view p) c.args.call) ≡ true = cc in
          rw (w.self-is, c.in-Readings.is, refused) refl
    ]
