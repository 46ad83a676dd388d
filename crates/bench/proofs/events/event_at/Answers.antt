-- The event is classified by value, and carried out.
use Rattle.bench.specs.Bench.{bench}
use Rattle.bench.proofs.Stages.{event_fits, ask_named, ask_fits, ask_after, send_named, send_fits, send_after, take_named, take_fits, take_after, answer_fits, note_after}
use Rattle.bench.proofs.events.event_at.Goals as goal

pub tell-p-requires : goal.tell-p-requires
tell-p-requires c =
    let a = c.args in
    event_fits a.file.now a.net_table.now a.w.header (bench a.hosts.now a.copies.now a.entries.now a.slots.now a.answers.now a.i) c.requires.0 c.requires.1

pub ask_of-a-requires : goal.ask_of-a-requires
ask_of-a-requires c =
    let a = c.args in
    ask_named a.file.now a.net_table.now a.w.header (bench a.hosts.now a.copies.now a.entries.now a.slots.now a.answers.now a.i) c.requires.0 c.requires.1 c.in-Ask.x c.in-Ask.ensures

pub ask_at-r-requires : goal.ask_at-r-requires
ask_at-r-requires c =
    let a = c.args in
    ask_fits a.file.now a.net_table.now a.w.header (bench a.hosts.now a.copies.now a.entries.now a.slots.now a.answers.now a.i) c.requires.0 c.requires.1 c.in-Ask.x c.in-Ask.ensures _ c.ask_of-a.ensures

pub keep_answer-requires : goal.keep_answer-requires
keep_answer-requires c =
    let a = c.args in
    answer_fits a.file.now a.net_table.now a.w.header (bench a.hosts.now a.copies.now a.entries.now a.slots.now a.answers.now a.i) c.requires.0 c.requires.1

pub returns-in-Ask : goal.returns-in-Ask
returns-in-Ask c =
    let a = c.args in
    ask_after a.file.now a.net_table.now a.w.header (bench a.hosts.now a.copies.now a.entries.now a.slots.now a.answers.now a.i) c.requires.0 c.requires.1 c.in-Ask.x c.in-Ask.ensures _ c.ask_of-a.ensures _ _ _ _ c.ask_at-r.ensures c.keep_answer.ensures

pub send_of-s-requires : goal.send_of-s-requires
send_of-s-requires c =
    let a = c.args in
    send_named a.file.now a.net_table.now a.w.header (bench a.hosts.now a.copies.now a.entries.now a.slots.now a.answers.now a.i) c.requires.0 c.requires.1 c.in-Send.y c.in-Send.ensures

pub send_at-r-requires : goal.send_at-r-requires
send_at-r-requires c =
    let a = c.args in
    send_fits a.file.now a.net_table.now a.w.header (bench a.hosts.now a.copies.now a.entries.now a.slots.now a.answers.now a.i) c.requires.0 c.requires.1 c.in-Send.y c.in-Send.ensures _ c.send_of-s.ensures

pub keep_answer-requires-in-Send : goal.keep_answer-requires-in-Send
keep_answer-requires-in-Send c =
    let a = c.args in
    answer_fits a.file.now a.net_table.now a.w.header (bench a.hosts.now a.copies.now a.entries.now a.slots.now a.answers.now a.i) c.requires.0 c.requires.1

pub returns-in-Send : goal.returns-in-Send
returns-in-Send c =
    let a = c.args in
    send_after a.file.now a.net_table.now a.w.header (bench a.hosts.now a.copies.now a.entries.now a.slots.now a.answers.now a.i) c.requires.0 c.requires.1 c.in-Send.y c.in-Send.ensures _ c.send_of-s.ensures _ _ _ _ c.send_at-r.ensures c.keep_answer-in-Send.ensures

pub take_of-t-requires : goal.take_of-t-requires
take_of-t-requires c =
    let a = c.args in
    take_named a.file.now a.net_table.now a.w.header (bench a.hosts.now a.copies.now a.entries.now a.slots.now a.answers.now a.i) c.requires.0 c.requires.1 c.in-Take.z c.in-Take.ensures

pub take_at-r-requires : goal.take_at-r-requires
take_at-r-requires c =
    let a = c.args in
    take_fits a.file.now a.net_table.now a.w.header (bench a.hosts.now a.copies.now a.entries.now a.slots.now a.answers.now a.i) c.requires.0 c.requires.1 c.in-Take.z c.in-Take.ensures _ c.take_of-t.ensures

pub keep_answer-requires-in-Take : goal.keep_answer-requires-in-Take
keep_answer-requires-in-Take c =
    let a = c.args in
    answer_fits a.file.now a.net_table.now a.w.header (bench a.hosts.now a.copies.now a.entries.now a.slots.now a.answers.now a.i) c.requires.0 c.requires.1

pub returns-in-Take : goal.returns-in-Take
returns-in-Take c =
    let a = c.args in
    take_after a.file.now a.net_table.now a.w.header (bench a.hosts.now a.copies.now a.entries.now a.slots.now a.answers.now a.i) c.requires.0 c.requires.1 c.in-Take.z c.in-Take.ensures _ c.take_of-t.ensures _ _ _ _ c.take_at-r.ensures c.keep_answer-in-Take.ensures

pub note-requires : goal.note-requires
note-requires c =
    let a = c.args in
    answer_fits a.file.now a.net_table.now a.w.header (bench a.hosts.now a.copies.now a.entries.now a.slots.now a.answers.now a.i) c.requires.0 c.requires.1

pub returns-in-Note : goal.returns-in-Note
returns-in-Note c =
    let a = c.args in
    note_after a.file.now a.net_table.now a.w.header (bench a.hosts.now a.copies.now a.entries.now a.slots.now a.answers.now a.i) c.requires.0 c.requires.1 c.in-Note.ensures _ c.note.ensures
