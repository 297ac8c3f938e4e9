-- What a reader must believe, after the specs/ of bench_calls, run_calls, turn_calls, image_calls and text_calls.
pub mod Host
